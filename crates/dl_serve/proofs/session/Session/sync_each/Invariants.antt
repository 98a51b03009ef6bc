use Rattle.std.proofs.Common.{◌≡◌, ◌++◌, ℕ, List, None, take}
use Rattle.dl_serve.specs.Arranged.{all_held, awaited}
use Rattle.dl_serve.specs.Asked.{Chain}
use Rattle.dl_serve.specs.Serve.{IsServed}
use Rattle.dl_serve.specs.Session.{stage_of}
use Rattle.dl_serve.proofs.session.Session.sync_each.Given as goal

abbrev pub invariant-loop-sync : goal.invariant-loop-sync
invariant-loop-sync g l =
    (frames : List ℕ) × Chain (IsServed {Z = g.row.A.Denot} g.D.Disk.state) (awaited None (all_held g.row.A.Denot (take l.sync-index l.held))) (stage_of l.fn.hub l.fn.self) (stage_of l.hub l.self) frames
    × (l.self.frames.items ≡ l.fn.self.frames.items ++ frames)
