use Rattle.std.proofs.Common.{[], List, Bool, sym, ap, ◌∙◌, take, get_or, ◌&&◌, ◌||◌, map as mapped}
use Rattle.dl_tool.proofs.Words.{Halt, is_clean, is_unread, list_all, list_any, Row, take_more}
use Rattle.dl_tool.specs.declared.finding.Finding.TheVariants.{Absent}
use Rattle.dl_tool.specs.declared.report.Tally.{Tally}
use Rattle.dl_tool.proofs.Lists.{clean_snoc, unread_snoc}
use Rattle.dl_tool.proofs.list.health_in.Goals as goal

-- any row
abbrev none : Row
none = record { log = record { base = record { text = [] }; kind = Halt }; found = Absent }

pub loop-row-preserved : goal.loop-row-preserved
loop-row-preserved c =
    let so_far = c.loop-row.invariant in
    let rows = take c.loop-row.row-index c.args.rows.now in
    let row = get_or c.args.rows.now c.loop-row.row-index none in
    let next = sym (take_more c.args.rows.now c.loop-row.row-index none c.loop-row-test.true) in
    record {
      clean = ap (λ (t : Tally). t.clean) c.tally_with-tally.ensures ∙ ap (λ (b : Bool). b && is_clean row.found) so_far.clean ∙ clean_snoc rows row ∙ ap (λ (rs : List Row). list_all is_clean (mapped (λ r. r.found) rs)) next;
      unread = ap (λ (t : Tally). t.unread) c.tally_with-tally.ensures ∙ ap (λ (b : Bool). b || is_unread row.found) so_far.unread ∙ unread_snoc rows row
          ∙ ap (λ (rs : List Row). list_any is_unread (mapped (λ r. r.found) rs)) next;
    }
