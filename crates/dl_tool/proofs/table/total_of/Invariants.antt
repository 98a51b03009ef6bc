use Rattle.std.proofs.Common.{◌≡◌, take}
use Rattle.dl_tool.specs.Table.{total_of}
use Rattle.dl_tool.proofs.table.total_of.Given as goal

-- how much the logs so far have together
abbrev pub invariant-loop-row : goal.invariant-loop-row
invariant-loop-row l = l.total ≡ total_of (take l.row-index l.rows)
