use Rattle.std.proofs.Common.{◌≡◌, ◌||◌, Bool, true, false, Option, Some, None, Result, Err, IfSome, refl, ap, ◌∙◌, arith, length}
use Rattle.std.specs.List.{list_any}
use Rattle.std.proofs.lemmas.Bool.{ltb-true}
use Rattle.std.proofs.lemmas.Grind.{common_steps}
use Rattle.dl_types.specs.declared.refusal.Fail.{Fail}
use Rattle.dl_types.specs.declared.refusal.Fail.TheVariants.{Refused}
use Rattle.dl_types.specs.declared.refusal.Refusal.{Refusal}
use Rattle.dl_app.specs.Items.{is_too_long, refusal_of}
use Rattle.dl_app.specs.Words.{words_left}
use Rattle.dl_app.proofs.items.items_of.Goals as goal

-- an error with this failure is a refusal if the failure is one
told : (A : Type 0) (o : Option Refusal) (fail : Fail) → IfSome o (λ r. fail ≡ Refused r) → IfSome o (λ r. ◌≡◌ {A = Result A Fail} (Err fail) (Err (Refused r)))
told A None fail is = tt
told A (Some r) fail is = ap Err is

second_of : (a b : Bool) → (a ≡ true → ⊥) → (a || b) ≡ b
second_of true b differs = absurd (differs refl)
second_of false b differs = refl

pub returns-in_default-clause-refused : goal.returns-in_default-clause-refused
returns-in_default-clause-refused g c = told _ (refusal_of (words_left c.args.words)) c.failure_of.result c.failure_of.ensures.refused

pub loop-word-preserved : goal.loop-word-preserved
loop-word-preserved g c = record {
  items = grind (arith, common_steps);
  left = omega (arith, ap length c.in-Some.ensures.steps, c.loop-word.invariant.left);
  short =
      c.loop-word.invariant.short ∙ ap (list_any is_too_long) c.in-Some.ensures.steps
      ∙ second_of (is_too_long c.in-Some.word.now) _ (λ long. let bad : ⊥ = cc (c.in-Ok.ensures.refused (ltb-true _ _ long)) in bad);
}
