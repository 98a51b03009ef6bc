use Rattle.std.proofs.Common.{◌≡◌, ◌++◌, ℕ, List, take}
use Rattle.dl_types.specs.declared.event.Event.TheVariants as event
use Rattle.dl_serve.specs.Asked.{Chain, IsAsked}
use Rattle.dl_serve.specs.Session.{stage_of}
use Rattle.dl_serve.proofs.session.Session.exit_all.Given as goal

abbrev pub invariant-loop-client : goal.invariant-loop-client
invariant-loop-client g l =
    (frames : List ℕ) × Chain (λ client. IsAsked g.D.Disk.state 0 (event.Exit client)) (take l.client-index l.clients) (stage_of l.fn.hub l.fn.self) (stage_of l.hub l.self) frames
    × (l.self.frames.items ≡ l.fn.self.frames.items ++ frames)
