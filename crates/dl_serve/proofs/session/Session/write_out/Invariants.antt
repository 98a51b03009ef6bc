-- Each time so far all was flushed and something was left.
use Rattle.std.proofs.Common.{◌≡◌, ◌++◌, ℕ, List}
use Rattle.dl_serve.specs.Session.{stage_of}
use Rattle.dl_serve.proofs.Outs.{AreTried}
use Rattle.dl_serve.proofs.session.Session.write_out.Given as goal

abbrev pub invariant-loop-tries : goal.invariant-loop-tries
invariant-loop-tries g l =
    (frames : List ℕ) × AreTried g.D.Disk.state l.tries (stage_of l.fn.hub l.fn.self) (stage_of l.hub l.self) frames × (l.self.frames.items ≡ l.fn.self.frames.items ++ frames)
