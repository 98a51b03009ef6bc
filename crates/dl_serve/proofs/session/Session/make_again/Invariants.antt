use Rattle.std.proofs.Common.{◌≡◌, ◌++◌, ℕ, List}
use Rattle.dl_serve.proofs.Chains.{MadeBefore}
use Rattle.dl_serve.proofs.session.Session.make_again.Given as goal

abbrev pub invariant-loop : goal.invariant-loop
invariant-loop g l =
    (done : List ℕ) × MadeBefore g.D.Disk.state l.fn.self.waiting.items l.calls.items done l.fn.hub l.hub l.self.waiting.items
    × (l.self.frames.items ≡ l.fn.self.frames.items ++ done) × (l.self.clients.items ≡ l.fn.self.clients.items)
