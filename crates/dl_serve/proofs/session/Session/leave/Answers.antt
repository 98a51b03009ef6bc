use Rattle.std.proofs.Common.{◌≡◌, ◌++◌, [], ℕ, List, refl, ap, ◌∙◌, subst, append_assoc}
use Rattle.dl_types.specs.declared.event.Event.TheVariants as event
use Rattle.dl_types.specs.declared.name.ClientId.{ClientId}
use Rattle.dl_serve.specs.Asked.{Chain, IsAsked}
use Rattle.dl_serve.specs.Session.{stage_of}
use Rattle.dl_serve.proofs.Outs.{ok_then}
use Rattle.dl_serve.proofs.session.Session.leave.Goals as goal

pub returns-clause-left : goal.returns-clause-left
returns-clause-left g c =
    let e = c.in_ok-exit_all.ensures in
    let none : c.replace-clients.new.dest.items ≡ [] = cc (c.replace-clients.ensures.after, c.new.ensures.items) in
    let list : c.as_slice.result.now ≡ c.args.self.now.clients.items = cc (c.as_slice.ensures.value, c.replace-clients.ensures.value) in
    let mid = stage_of c.exit_all.new.hub c.exit_all.new.self in
    let gone =
    subst (λ (cs : List ClientId). Chain (λ client. IsAsked g.D.Disk.state 0 (event.Exit client)) cs (record { hub = c.args.hub.now; waiting = c.args.self.now.waiting.items; clients = [] }) mid e.0) list
    (subst (λ (k : List ClientId). Chain (λ client. IsAsked g.D.Disk.state 0 (event.Exit client)) c.as_slice.result.now (record { hub = c.args.hub.now; waiting = c.args.self.now.waiting.items; clients = k }) mid e.0) none e.1) in
    ok_then c.write_out.result _ _ c.write_out.ensures.flushed (λ left f. (
      e.0 ++ f.0,
      (mid, e.0, f.0, gone, f.1, refl),
      f.2 ∙ ap (λ (l : List ℕ). l ++ f.0) e.2 ∙ append_assoc c.args.self.now.frames.items e.0 f.0,
    ))
