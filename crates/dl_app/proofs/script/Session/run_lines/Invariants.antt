-- The lines so far were run, and their answers are written.
use Rattle.std.proofs.Common.{◌≡◌, ◌+◌, ℕ, List, length}
use Rattle.dl_lines.specs.Lines.{TakesLines}
use Rattle.dl_app.specs.Script.{Runs}
use Rattle.dl_app.specs.Session.{stage_of}
use Rattle.dl_app.proofs.script.Session.run_lines.Given as goal

abbrev pub invariant-loop-number : goal.invariant-loop-number
invariant-loop-number g l =
    (lines : List (List ℕ)) × TakesLines (g.R.Read.remaining l.fn.input) (g.R.Read.remaining l.input) lines × (length lines + 1 ≡ l.number)
    × Runs g.D.Disk.state g.row.A.Denot lines (stage_of l.fn.hub l.fn.self) (stage_of l.hub l.self) (g.W.Write.contents l.fn.output) (g.W.Write.contents l.output)
