-- Counts of faults, after one base has another count.
use Rattle.std.proofs.Common.{◌≡◌, ◌≢◌, ℕ, Bool, true, false, cond, Option, Some, None, IsSome, unwrap_or, refl, sym, ◌∙◌, ap, subst}
use Rattle.dl_types.specs.declared.name.Base.{Base}
use Rattle.dl_types.specs.Name.{same_base}
use Rattle.dl_types.proofs.Keys.{base_decides, apart}

abbrev number : Option ℕ → ℕ
number count = unwrap_or count 0

module _ (old new : Base → Option ℕ) (base : Base) (w : Option ℕ) (is : (b : Base) → new b ≡ cond (same_base base b) w (old b)) where
  at_test : (b : Base) (t : Bool) → same_base base b ≡ t → new b ≡ cond t w (old b)
  at_test b t e = is b ∙ ap (λ u. cond u w (old b)) e

  -- another base keeps its count
  pub count_kept : (b : Base) → b ≢ base → number (new b) ≡ number (old b)
  count_kept b ne = ap number (at_test b false (apart same_base base_decides base b ne))

  -- a base that had a count has one
  pub still_known : IsSome w → (b : Base) → IsSome (old b) → IsSome (new b)
  still_known some b had = by_test (same_base base b) refl
    where
      by_test : (t : Bool) → same_base base b ≡ t → IsSome (new b)
      by_test true e = subst IsSome (sym (at_test b true e)) some
      by_test false e = subst IsSome (sym (at_test b false e)) had

  -- a base whose count begins at 0 has no more faults than it had without one
  pub count_begins : w ≡ Some 0 → old base ≡ None → (b : Base) → number (new b) ≡ number (old b)
  count_begins zero none b = by_test (same_base base b) refl
    where
      by_test : (t : Bool) → same_base base b ≡ t → number (new b) ≡ number (old b)
      by_test true e = ap number (at_test b true e ∙ zero) ∙ sym (ap number (ap old (sym ((base_decides base b).0 e)) ∙ none))
      by_test false e = ap number (at_test b false e)
