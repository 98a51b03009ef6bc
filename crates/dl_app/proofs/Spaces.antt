-- The first word of a text, by where its first space is.
use Rattle.std.proofs.Common.{◌≡◌, ℕ, ◌+◌, ◌<◌, ◌≤◌, ◌==◌, Bool, true, false, not, cond, Option, Some, None, List, [], ◌∷◌, length, take, drop, refl, subst, sym, ap, ◌∙◌, suc, add-one, Bor, is_some, count_by, arith}
use Rattle.std.specs.List.{slice_split, onto_first, prefix_len, position, position_or_len}
use Rattle.std.proofs.lemmas.Bool.{ltb-true, ltb-false}
use Rattle.std.proofs.lemmas.List.Splits.{slice_split_first, length-slice_split}
use Rattle.std.proofs.Math.Dec.{eqb-suc-zero}
use Rattle.dl_app.specs.Words.{words_of, words_in}

pub some_where : (b : Bool) (n k : ℕ) → cond b (Some n) None ≡ Some k → (b ≡ true) × (n ≡ k)
some_where true n k e = (refl, cc)
some_where false n k e = let bad : ⊥ = cc in absurd bad

pub none_where : (b : Bool) (n : ℕ) → cond b (Some n) None ≡ None → b ≡ false
none_where true n e = let bad : ⊥ = cc in absurd bad
none_where false n e = refl

whole : (p : ℕ → Bool) (xs : List ℕ) → length xs ≤ position_or_len p xs → slice_split p xs ≡ xs ∷ []
whole p [] h = refl
whole p (x ∷ xs) h =
    elim (p x) as (λ b. length (x ∷ xs) ≤ cond (not b) (1 + prefix_len (λ y. not (p y)) xs) 0 → cond b ([] ∷ slice_split p xs) (onto_first x (slice_split p xs)) ≡ (x ∷ xs) ∷ []) [
      | true ↦ λ g. let bad : ⊥ = omega arith in absurd bad
      | false ↦ λ g. let shorter : length xs ≤ position_or_len p xs = omega arith in rw (whole p xs shorter) refl
    ] h

-- a text whose first space is at k
pub at_space : (text : List ℕ) (k : ℕ) → position (λ b. b == 32) text ≡ Some k → words_of text ≡ take k text ∷ words_of (drop (k + 1) text)
at_space text k e =
    let found = some_where _ (position_or_len (λ b. b == 32) text) k e in
    let within : position_or_len (λ b. b == 32) text < length text = ltb-true _ _ found.0 in
    subst (λ (m : ℕ). words_of text ≡ take m text ∷ words_of (drop (m + 1) text)) found.1
    (slice_split_first (λ b. b == 32) text 0 within)

-- a text with no space is one word
pub no_space : (text : List ℕ) → position (λ b. b == 32) text ≡ None → words_of text ≡ text ∷ []
no_space text e = whole (λ b. b == 32) text (ltb-false _ _ (none_where _ (position_or_len (λ b. b == 32) text) e))

-- a text has at least one word
pub none_left : (rest : Option (Bor (List ℕ))) (b : Bool) → is_some rest ≡ not b → b ≡ (length (words_in rest) == 0)
none_left None true e = refl
none_left None false e = cc
none_left (Some text) true e = cc
none_left (Some text) false e =
    let some : length (words_of text.now) ≡ suc (count_by (λ b. b == 32) text.now) = length-slice_split (λ b. b == 32) text.now ∙ add-one _ in
    sym (ap (λ n. n == 0) some ∙ eqb-suc-zero _)
