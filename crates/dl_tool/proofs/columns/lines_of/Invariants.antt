use Rattle.std.proofs.Common.{◌≡◌, take}
use Rattle.dl_tool.specs.Table.{lines_of}
use Rattle.dl_tool.proofs.columns.lines_of.Given as goal

-- the lines so far
abbrev pub invariant-loop-entry : goal.invariant-loop-entry
invariant-loop-entry g l = l.text.items ≡ lines_of l.widths (take l.entry-index l.entries)
