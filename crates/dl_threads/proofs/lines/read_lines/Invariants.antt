-- The lines so far were taken from the input, and each has a form or is passed over.
use Rattle.std.proofs.Common.{◌≡◌, ◌+◌, length}
use Rattle.dl_lines.specs.Lines.{TakesLines}
use Rattle.dl_threads.specs.Lines.{HaveForms, texts_of}
use Rattle.dl_threads.proofs.lines.read_lines.Given as goal

abbrev pub invariant-loop-number : goal.invariant-loop-number
invariant-loop-number g l =
    TakesLines (g.R.Read.remaining l.fn.input) (g.R.Read.remaining l.input) (texts_of l.lines.items) × (length (texts_of l.lines.items) + 1 ≡ l.number) × HaveForms (texts_of l.lines.items)
