use Rattle.std.proofs.Common.{◌≡◌, ℕ, [], Bool, true, replicate}
use Rattle.dl_hub.specs.Flush.{turns_left}
use Rattle.dl_serve.specs.Asked.{Chain}
use Rattle.dl_serve.specs.Serve.{IsFlushed}
use Rattle.dl_serve.specs.Session.{stage_of}
use Rattle.dl_serve.proofs.session.Session.flush_all.Given as goal

abbrev pub invariant-loop-self : goal.invariant-loop-self
invariant-loop-self g l =
    (n : ℕ) × Chain (λ (drained : Bool). IsFlushed g.D.Disk.state drained 0) (replicate n true) (stage_of l.fn.hub l.fn.self) (stage_of l.hub l.self) []
    × (l.self.frames.items ≡ l.fn.self.frames.items)

abbrev pub decreases-loop-self : goal.decreases-loop-self
decreases-loop-self g l = turns_left l.hub
