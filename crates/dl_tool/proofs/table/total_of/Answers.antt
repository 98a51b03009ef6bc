use Rattle.std.proofs.Common.{[], ap, ◌∙◌}
use Rattle.dl_tool.proofs.Words.{Halt, Row}
use Rattle.dl_tool.specs.declared.finding.Finding.TheVariants.{Absent}
use Rattle.dl_tool.specs.Table.{share_of, total_with}
use Rattle.dl_tool.proofs.Tables.{total_step}
use Rattle.dl_tool.proofs.table.total_of.Goals as goal

-- any row
abbrev none : Row
none = record { log = record { base = record { text = [] }; kind = Halt }; found = Absent }

pub loop-row-preserved : goal.loop-row-preserved
loop-row-preserved c =
    total_step c.args.rows.now c.loop-row.row-index none c.loop-row.total c.total_with-total.result c.loop-row-test.true c.loop-row.invariant
    (c.total_with-total.ensures ∙ ap (total_with c.loop-row.total) (c.share_of.ensures ∙ ap share_of c.amount_in.ensures))
