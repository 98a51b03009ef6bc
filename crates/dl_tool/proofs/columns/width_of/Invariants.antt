use Rattle.std.proofs.Common.{◌≡◌, take}
use Rattle.dl_tool.specs.Table.{width_of}
use Rattle.dl_tool.proofs.columns.width_of.Given as goal

-- the length of the longest cell so far
abbrev pub invariant-loop-entry : goal.invariant-loop-entry
invariant-loop-entry g l = l.width ≡ width_of l.column (take l.entry-index l.entries)
