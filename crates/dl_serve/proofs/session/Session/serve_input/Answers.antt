-- What was served so far, and what was served of the last piece.
use Rattle.std.proofs.Common.{◌≡◌, ◌++◌, [], ◌∷◌, ℕ, List, false, refl, ap, ◌∙◌, subst, append_assoc, rules}
use Rattle.std.specs.Io.KnownBytes.{Consumes}
use Rattle.std.proofs.KnownBytes.{Appends-trans, Consumes-trans}
use Rattle.dl_wire.specs.Answer.{bad_text, frame_text}
use Rattle.dl_serve.specs.declared.stream.Stop.{Stop}
use Rattle.dl_serve.specs.Arranged.{arranged}
use Rattle.dl_serve.specs.Serve.{IsServed, IsStopped, joined}
use Rattle.dl_serve.specs.Session.{stage_of}
use Rattle.dl_serve.proofs.Chains.{chain_batch}
use Rattle.dl_serve.proofs.Streams.{frames_of, batches_then, ended_frames, long_frames, consumes_none, appends_none}
use Rattle.dl_serve.proofs.session.Session.serve_input.Goals as goal
use Rattle.dl_serve.proofs.session.Session.serve_input.Goals.{in-Full, in-Partial+in_ok-take_in-in-Partial+else-not-branch}

pub loop-init : goal.loop-init
loop-init g c = (
  [],
  [],
  consumes_none (g.R.Read.remaining c.args.input.now) c.new-unread.result.items c.new-unread.ensures.items,
  (refl, refl),
  appends_none (g.W.Write.contents c.args.output.now),
  c.requires,
)

pub returns-in-Long : goal.returns-in-Long
returns-in-Long g c =
    let pre = c.loop.invariant in
    let s = c.in_ok-serve_unread.ensures.served in
    let unread = c.serve_unread.new.unread.items in
    let start = g.R.Read.remaining c.args.input.now in
    let now = g.R.Read.remaining c.loop.input in
    let taken = subst (λ (l : List ℕ). Consumes start now l) (batches_then pre.0 s.0 c.loop.unread.items unread s.2) pre.2 in
    let stopped = subst (λ (stop : Stop). IsStopped stop unread) c.in-Long.is s.5 in
    let long = long_frames start now (joined (pre.0 ++ s.0 ∷ [])) unread taken stopped in
    record {
      batches = pre.0 ++ s.0 ∷ [];
      rest = long.0;
      answers = pre.1 ++ s.1;
      framed = long.1;
      served = chain_batch (IsServed {Z = g.row.A.Denot} g.D.Disk.state) (arranged g.row.A.Denot) pre.0 s.0 (stage_of c.args.hub.now c.args.self.now) (stage_of c.loop.hub c.loop.self) (stage_of c.serve_unread.new.hub c.serve_unread.new.self) pre.1 s.1 pre.3 s.3;
      ended = (long.2, c.in_ok-push_bad-in-Long.ensures ∙ ap (λ (l : List ℕ). l ++ frame_text (bad_text 0 0)) c.in_ok-serve_unread.ensures.sent);
      sent = Appends-trans _ _ _ pre.1 s.1 pre.4 s.4;
    }

pub returns-then-not-branch : goal.returns-then-not-branch
returns-then-not-branch g c =
    let pre = c.loop.invariant in
    let s = c.in_ok-serve_unread.ensures.served in
    let t = c.in_ok-take_in-in-Partial.ensures.taken in
    let unread = c.serve_unread.new.unread.items in
    let start = g.R.Read.remaining c.args.input.now in
    let now = g.R.Read.remaining c.loop.input in
    let then = g.R.Read.remaining c.take_in.new.input in
    let taken = subst (λ (l : List ℕ). Consumes start now l) (batches_then pre.0 s.0 c.loop.unread.items unread s.2) pre.2 in
    let stopped = subst (λ (stop : Stop). IsStopped stop unread) c.in-Partial.is s.5 in
    let no : c.in_ok-take_in-in-Partial.field-0 ≡ false = search rules in
    let end = t.3 no in
    record {
      batches = pre.0 ++ s.0 ∷ [];
      rest = unread;
      answers = pre.1 ++ s.1;
      framed = ended_frames start then (joined (pre.0 ++ s.0 ∷ [])) unread t.0 (Consumes-trans start now then (frames_of (joined (pre.0 ++ s.0 ∷ [])) ++ unread) t.0 taken t.2) end.0 end.1;
      served = chain_batch (IsServed {Z = g.row.A.Denot} g.D.Disk.state) (arranged g.row.A.Denot) pre.0 s.0 (stage_of c.args.hub.now c.args.self.now) (stage_of c.loop.hub c.loop.self) (stage_of c.serve_unread.new.hub c.serve_unread.new.self) pre.1 s.1 pre.3 s.3;
      ended = (stopped, c.in_ok-serve_unread.ensures.sent);
      sent = Appends-trans _ _ _ pre.1 s.1 pre.4 s.4;
    }

pub loop-preserved : goal.loop-preserved
loop-preserved g c =
    let pre = c.loop.invariant in
    let s = c.in_ok-serve_unread.ensures.served in
    let unread = c.serve_unread.new.unread.items in
    let start = g.R.Read.remaining c.args.input.now in
    let now = g.R.Read.remaining c.loop.input in
    let taken = subst (λ (l : List ℕ). Consumes start now l) (batches_then pre.0 s.0 c.loop.unread.items unread s.2) pre.2 in
    let goes_on : Consumes start (g.R.Read.remaining c.match-branch-3.input) (frames_of (joined (pre.0 ++ s.0 ∷ [])) ++ c.match-branch-3.unread.items) =
    elim c.match-branch-3.branch [
      | in-Full w ↦ rw (w.input-is, w.unread-is) taken
      | in-Partial+in_ok-take_in-in-Partial+else-not-branch w ↦
          let t = w.in_ok-take_in-in-Partial.ensures.taken in
          rw (w.input-is, w.unread-is, t.1)
          (subst (λ (l : List ℕ). Consumes start (g.R.Read.remaining w.take_in.new.input) l) (append_assoc (frames_of (joined (pre.0 ++ s.0 ∷ []))) unread t.0)
          (Consumes-trans start now (g.R.Read.remaining w.take_in.new.input) (frames_of (joined (pre.0 ++ s.0 ∷ [])) ++ unread) t.0 taken t.2))
    ] in (
      pre.0 ++ s.0 ∷ [],
      pre.1 ++ s.1,
      goes_on,
      chain_batch (IsServed {Z = g.row.A.Denot} g.D.Disk.state) (arranged g.row.A.Denot) pre.0 s.0 (stage_of c.args.hub.now c.args.self.now) (stage_of c.loop.hub c.loop.self) (stage_of c.serve_unread.new.hub c.serve_unread.new.self) pre.1 s.1 pre.3 s.3,
      Appends-trans _ _ _ pre.1 s.1 pre.4 s.4,
      c.in_ok-serve_unread.ensures.sent,
    )
