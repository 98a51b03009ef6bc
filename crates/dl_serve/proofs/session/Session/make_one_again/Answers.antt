use Rattle.std.proofs.Common.{◌++◌, ◌≡◌, ℕ, List, Bool, false, sym, ap, ◌∙◌, append-nil}
use Rattle.dl_serve.specs.declared.waiting.Waiting.{Waiting}
use Rattle.dl_serve.specs.Asked.{kept_of, outcome_frames}
use Rattle.dl_serve.specs.Event.{is_suspended}
use Rattle.dl_serve.proofs.session.Session.make_one_again.Goals as goal

pub returns-else-waits-clause-made : goal.returns-else-waits-clause-made
returns-else-waits-clause-made g c =
    let old = c.args.self.now in
    let outcome = c.apply-outcome.result in
    let free : is_suspended outcome.reply ≡ false = sym c.is_suspended-waits.ensures ∙ c.if-waits.false in (
      outcome,
      c.apply-outcome.ensures,
      sym (append-nil old.waiting.items) ∙ ap (λ (b : Bool). old.waiting.items ++ kept_of b c.args.call) (sym free),
      c.in_ok-push_outcome.ensures ∙ ap (λ (b : Bool). old.frames.items ++ outcome_frames b c.args.call.tag outcome) c.is_suspended-waits.ensures,
    )
