-- A text is taken up as the request that it is, or as one that is no request.
use Rattle.std.proofs.Common.{◌≡◌, ◌++◌, ℕ, List, None, Err, inr, refl, sym, ap, ◌∙◌, subst, append_assoc}
use Rattle.dl_wire.specs.declared.fault.DecodeFault.{DecodeFault}
use Rattle.dl_wire.specs.Answer.{bad_text, frame_text}
use Rattle.dl_wire.specs.Decode.{request_in, IsDecoded}
use Rattle.dl_wire.specs.Request.{request_text}
use Rattle.dl_serve.specs.Arranged.{Moment, moment_in, moment_read}
use Rattle.dl_serve.specs.Frames.{tag_of}
use Rattle.dl_serve.specs.Serve.{IsTakenUp}
use Rattle.dl_serve.specs.Session.{stage_of}
use Rattle.dl_serve.proofs.Arranging.{taken_after}
use Rattle.dl_serve.proofs.session.Session.take_text.Goals as goal

pub returns-in_ok-take_request-in-Ok : goal.returns-in_ok-take_request-in-Ok
returns-in_ok-take_request-in-Ok g c =
    let Z = g.row.A.Denot in
    let state = g.D.Disk.state in
    let read = c.in-Ok.ensures in
    let a = c.in_ok-take_request-in-Ok.ensures in
    let text = c.args.text.now in
    let r = c.in-Ok.request in
    let held = c.args.held.now.items in
    let kept = c.take_request.new.held.items in
    let old = stage_of c.args.hub.now c.args.self.now in
    let new = stage_of c.take_request.new.hub c.take_request.new.self in (
      a.0,
      subst (λ (t : List ℕ). IsTakenUp state (moment_in Z text) t held kept old new a.0) (sym read.found.1)
          (subst (λ (m : Moment). IsTakenUp state m (request_text r) held kept old new a.0) (sym (ap moment_read read.place)) a.1),
      a.2,
    )

pub returns-in_ok-refuse-in-Err-At : goal.returns-in_ok-refuse-in-Err-At
returns-in_ok-refuse-in-Err-At g c =
    let Z = g.row.A.Denot in
    let s = c.in_ok-sync_held-in-Err-At.ensures in
    let w = c.in_ok-refuse-in-Err-At.ensures in
    let text = c.args.text.now in
    let place = c.in-Err-At.place in
    let wrong : request_in {Z = Z} text ≡ Err place =
    subst (λ (f : DecodeFault). IsDecoded {Z = Z} (Err f) (request_in {Z = Z} text)) c.in-Err-At.field-0-is c.in-Err-At.ensures.place in
    let told : List ℕ = frame_text (bad_text (tag_of text) place) in
    let old = stage_of c.args.hub.now c.args.self.now in
    let mid = stage_of c.sync_held.new.hub c.sync_held.new.self in
    let new = stage_of c.sync_held.new.hub c.refuse.new.self in
    let same : new ≡ mid = λ i. record { hub = c.sync_held.new.hub; waiting = c.refuse.ensures.waiting i; clients = c.refuse.ensures.clients i } in (
      s.synced.0 ++ told,
      taken_after g.D.Disk.state (moment_in Z text) None text c.args.held.now.items c.sync_held.new.held.items old mid new s.synced.0 told
          (ap moment_read wrong) s.synced.1 s.kept s.requests (inr (place, wrong, same, refl)),
      w.frames ∙ ap (λ (l : List ℕ). l ++ told) s.synced.2 ∙ append_assoc c.args.self.now.frames.items s.synced.0 told,
    )

pub refuse-requires-clause-wrong : goal.refuse-requires-clause-wrong
refuse-requires-clause-wrong g c =
    let Z = g.row.A.Denot in
    subst (λ (f : DecodeFault). IsDecoded {Z = Z} (Err f) (request_in {Z = Z} c.args.text.now)) c.in-Err-At.field-0-is c.in-Err-At.ensures.place
