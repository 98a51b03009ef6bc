use Rattle.std.proofs.Common.{◌≡◌, ◌++◌, [], ℕ, List}
use Rattle.std.specs.List.{flat_map}
use Rattle.std.specs.Io.KnownBytes.{Appends, Consumes}
use Rattle.dl_serve.specs.Arranged.{arranged}
use Rattle.dl_serve.specs.Asked.{Chain}
use Rattle.dl_serve.specs.Serve.{IsServed, joined}
use Rattle.dl_serve.specs.Session.{stage_of}
use Rattle.dl_serve.proofs.Streams.{frames_of}
use Rattle.dl_serve.proofs.session.Session.serve_input.Given as goal

abbrev pub invariant-loop : goal.invariant-loop
invariant-loop g l =
    (batches : List (List (List ℕ))) × (answers : List ℕ) × Consumes (g.R.Read.remaining l.fn.input) (g.R.Read.remaining l.input) (frames_of (joined batches) ++ l.unread.items)
    × Chain (IsServed g.D.Disk.state) (flat_map (arranged g.row.A.Denot) batches) (stage_of l.fn.hub l.fn.self) (stage_of l.hub l.self) answers
    × Appends (g.W.Write.contents l.fn.output) (g.W.Write.contents l.output) answers × (l.self.frames.items ≡ [])
