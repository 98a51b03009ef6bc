use Rattle.std.proofs.Common.{◌≡◌, ◌≤◌, ◌++◌, ℕ, List, drop, length}
use Rattle.dl_serve.specs.Arranged.{all_held, AreRequests}
use Rattle.dl_serve.specs.Asked.{Chain}
use Rattle.dl_serve.specs.Serve.{IsServed}
use Rattle.dl_serve.specs.Session.{stage_of}
use Rattle.dl_serve.proofs.Arranging.{ArrangedBefore}
use Rattle.dl_serve.proofs.Streams.{frames_of}
use Rattle.dl_serve.proofs.session.Session.take_frames.Given as goal

abbrev pub invariant-loop : goal.invariant-loop
invariant-loop g l =
    (texts : List (List ℕ)) × (done : List (List ℕ)) × (frames : List ℕ) × (l.bytes ≡ frames_of texts ++ drop l.at l.bytes)
    × ArrangedBefore g.row.A.Denot texts done (all_held g.row.A.Denot l.held.items) × AreRequests g.row.A.Denot l.held.items
    × Chain (IsServed {Z = g.row.A.Denot} g.D.Disk.state) done (stage_of l.fn.hub l.fn.self) (stage_of l.hub l.self) frames
    × (l.self.frames.items ≡ l.fn.self.frames.items ++ frames) × (l.at ≤ length l.bytes)
