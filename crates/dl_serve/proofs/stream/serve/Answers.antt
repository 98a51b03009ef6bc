-- The frames were served, the clients left, and all of it is written.
use Rattle.std.proofs.Common.{◌≡◌, ◌++◌, ℕ, List, refl, subst}
use Rattle.std.specs.Io.KnownBytes.{Appends}
use Rattle.std.specs.List.{flat_map}
use Rattle.std.proofs.KnownBytes.{Appends-trans, Appends-kept}
use Rattle.dl_serve.specs.Arranged.{arranged}
use Rattle.dl_serve.specs.Asked.{Stage, Chain}
use Rattle.dl_serve.specs.Serve.{IsServed, first_stage}
use Rattle.dl_serve.specs.Session.{stage_of}
use Rattle.dl_serve.proofs.stream.serve.Goals as goal

pub returns-in-Ok-clause-served : goal.returns-in-Ok-clause-served
returns-in-Ok-clause-served g c =
    let k = c.in-Ok.ensures in
    let l = c.in_ok-left-in-Ok.ensures.left in
    let told = c.serve_input.new.self.frames.items in
    let mid = stage_of c.serve_input.new.hub c.serve_input.new.self in
    let written = g.W.Write.contents c.args.output.now in
    let taken = g.W.Write.contents c.serve_input.new.output in
    let sent = g.W.Write.contents c.send.new.output in
    let after = g.W.Write.contents c.flush.new.self in
    let fresh : stage_of c.args.hub.now c.new-session.result ≡ first_stage c.args.hub.now =
    λ i. record { hub = c.args.hub.now; waiting = c.new-session.ensures.waiting i; clients = c.new-session.ensures.clients i } in
    let last = subst (λ (f : List ℕ). Appends taken sent f) l.2 c.in_ok-send-in-Ok.ensures.written in
    record {
      batches = k.batches;
      rest = k.rest;
      mid = mid;
      last = stage_of c.leave.new.hub c.leave.new.self;
      answers = k.answers;
      told = told;
      farewell = l.0;
      framed = k.framed;
      done = subst (λ (s : Stage g.row.D.Denot g.row.A.Denot). Chain (IsServed {Z = g.row.A.Denot} g.D.Disk.state) (flat_map (arranged g.row.A.Denot) k.batches) s mid k.answers) fresh k.served;
      ended = k.ended;
      left = l.1;
      hub = refl;
      whole = Appends-kept written sent after (k.answers ++ (told ++ l.0)) (Appends-trans written taken sent k.answers (told ++ l.0) k.sent last) c.flush.ensures.bytes;
    }
