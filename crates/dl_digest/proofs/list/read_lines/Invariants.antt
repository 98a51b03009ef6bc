use Rattle.std.proofs.Common.{map}
use Rattle.dl_lines.specs.Lines.{TakesLines}
use Rattle.dl_digest.specs.Line.{line_text}
use Rattle.dl_digest.proofs.list.read_lines.Given as goal

-- the lines so far were taken
abbrev pub invariant-loop-number : goal.invariant-loop-number
invariant-loop-number g l = TakesLines (g.R.Read.remaining l.fn.input) (g.R.Read.remaining l.input) (map line_text l.lines.items)
