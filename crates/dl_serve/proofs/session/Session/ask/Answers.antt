use Rattle.std.proofs.Common.{◌++◌, ℕ, List, Bool, Option, refl, ap, ◌∙◌, subst, append_assoc}
use Rattle.dl_types.specs.declared.name.ClientId.{ClientId}
use Rattle.dl_types.specs.Block.{may_wake}
use Rattle.dl_serve.specs.declared.waiting.Waiting.{Waiting}
use Rattle.dl_serve.specs.Asked.{Wakes, IsAsked, outcome_frames, will_wait}
use Rattle.dl_serve.specs.Event.{with_client}
use Rattle.dl_serve.specs.Session.{stage_of}
use Rattle.dl_serve.proofs.session.Session.ask.Goals as goal

pub returns : goal.returns
returns g c =
    let W = Waiting g.row.A.Denot in
    let state = g.D.Disk.state in
    let old = c.args.self.now in
    let outcome = c.apply-outcome.result in
    let waits = will_wait outcome old.waiting.items in
    let woken = c.in_ok-wake.ensures.woken in
    let first = outcome_frames waits c.args.tag outcome in
    let wakes = subst (λ (ws : List W). Wakes state (may_wake c.args.event) ws c.apply-outcome.new.self c.wake.new.hub c.wake.new.self.waiting.items woken.0) c.in_ok-answer.ensures.waiting
    (subst (λ (b : Bool). Wakes state b c.answer.new.self.waiting.items c.apply-outcome.new.self c.wake.new.hub c.wake.new.self.waiting.items woken.0) c.may_wake-wakes.ensures woken.1) in
    let asked : IsAsked state c.args.tag c.args.event (stage_of c.args.hub.now old) (stage_of c.wake.new.hub c.wake.new.self) (first ++ woken.0) = record {
      outcome = outcome;
      mid = c.apply-outcome.new.self;
      woken = woken.0;
      step = c.apply-outcome.ensures;
      wakes = wakes;
      clients =
          c.in_ok-wake.ensures.clients ∙ c.in_ok-answer.ensures.clients ∙ c.in_ok-add_client.ensures ∙ ap (λ (o : Option ClientId). with_client o old.clients.items) c.joiner_of.ensures;
      whole = refl;
    } in
    (first ++ woken.0, asked, woken.2 ∙ ap (λ (l : List ℕ). l ++ woken.0) c.in_ok-answer.ensures.frames ∙ append_assoc old.frames.items first woken.0)
