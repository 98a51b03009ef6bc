-- A sync is held, and any other request is done after the syncs that come before it.
use Rattle.std.proofs.Common.{◌++◌, [], ℕ, List, inl, refl, sym, ap, ◌∙◌, append_assoc, append-nil}
use Rattle.dl_wire.specs.Request.{request_text}
use Rattle.dl_serve.specs.Arranged.{moment_of}
use Rattle.dl_serve.specs.Session.{stage_of}
use Rattle.dl_serve.proofs.Arranging.{moment_after, taken_after, taken_later}
use Rattle.dl_serve.proofs.session.Session.take_request.Goals as goal

pub returns-in_ok-push-in-Some : goal.returns-in_ok-push-in-Some
returns-in_ok-push-in-Some g c = (
  [],
  taken_later g.D.Disk.state c.args.request c.in-Some.sync c.args.held.now.items c.push.new.self.items (stage_of c.args.hub.now c.args.self.now) c.in-Some.ensures c.requires.request c.requires.held c.in_ok-push-in-Some.ensures.items,
  sym (append-nil c.args.self.now.frames.items),
)

pub returns-in_ok-serve_request-in-None : goal.returns-in_ok-serve_request-in-None
returns-in_ok-serve_request-in-None g c =
    let r = c.args.request in
    let s = c.in_ok-sync_held-in-None.ensures in
    let a = c.in_ok-serve_request-in-None.ensures in
    let old = stage_of c.args.hub.now c.args.self.now in
    let mid = stage_of c.sync_held.new.hub c.sync_held.new.self in
    let new = stage_of c.serve_request.new.hub c.serve_request.new.self in (
      s.synced.0 ++ a.0,
      taken_after g.D.Disk.state (moment_of r) c.caller_of.result (request_text r) c.args.held.now.items c.sync_held.new.held.items old mid new s.synced.0 a.0
          (moment_after g.D.Disk.state r c.caller_of.result c.in-None.ensures c.caller_of.ensures) s.synced.1 s.kept s.requests (inl (r, c.requires.request, refl, a.1)),
      a.2 ∙ ap (λ (l : List ℕ). l ++ a.0) s.synced.2 ∙ append_assoc c.args.self.now.frames.items s.synced.0 a.0,
    )
