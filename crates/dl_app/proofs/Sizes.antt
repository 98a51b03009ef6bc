-- Which words write a size, by their first `x`.
use Rattle.std.proofs.Common.{◌≡◌, ◌≢◌, ℕ, zero, suc, ◌+◌, ◌<◌, ◌≤◌, ◌==◌, Bool, true, false, ◌&&◌, ◌^◌, nat_lt, cond, add-one, Option, Some, None, List, [], ◌∷◌, ◌++◌, codes, length, take, drop, get_or, refl, sym, ap, ◌∙◌, arith}
use Rattle.std.specs.List.{list_all, list_any}
use Rattle.std.specs.Char.{is_ascii_digit}
use Rattle.std.specs.Str.Parse.{digits_value}
use Rattle.std.proofs.lemmas.Bool.{eqb-true, eqb-false, ne_eqb, and_parts, or_parts, or_from, or_right}
use Rattle.std.proofs.lemmas.Bool.Decides.{leb_tells}
use Rattle.std.proofs.lemmas.List.{take-append-drop, drop_more, take_all}
use Rattle.std.proofs.lemmas.List.Folds.{list_any-append, list_any_more}
use Rattle.std.specs.Int.{IsInRange}
use Rattle.memchr.specs.Find.{IsFirstByte, is_byte}
use Rattle.dl_types.specs.declared.size.Size.{Size}
use Rattle.dl_types.specs.declared.size.Size.TheVariants.{Infinity, Limit, Wrap}
use Rattle.dl_app.specs.Words.{number_in, small_of, WritesSize}
use Rattle.dl_lines.proofs.Positions.{is_false}
use Rattle.dl_app.proofs.Chosen.{both_ways}

-- an `x`
abbrev is_x : ℕ → Bool
is_x = λ b. b == 120

-- no `x` at any of the first places
none_up : (word : List ℕ) (k : ℕ) → k ≤ length word → ((j : ℕ) → j < k → is_x (get_or word j 0) ≡ true → ⊥) → list_any is_x (take k word) ≡ false
none_up word zero within none = refl
none_up word (suc k) within none =
    let before = none_up word k (omega arith) (λ j below. none j (omega arith)) in
    let more = list_any_more is_x word k 0 (omega arith) in
    ap (λ (n : ℕ). list_any is_x (take n word)) (sym (add-one k)) ∙ more ∙ or_from (list_any is_x (take k word)) (is_x (get_or word k 0)) before (is_false _ (none k (omega arith)))

-- a word with an `x` is what stands before the first, and what stands after it
pub first_parts : (word : List ℕ) (k : ℕ) → IsFirstByte (is_byte 120) word (Some k) → (word ≡ take k word ++ (codes "x" ++ drop (k + 1) word)) × (list_any is_x (take k word) ≡ false)
first_parts word k h =
    let at : get_or word k 0 ≡ 120 = eqb-true (get_or word k 0) 120 h.1 in
    let rest : drop k word ≡ 120 ∷ drop (k + 1) word = drop_more word k 0 h.0.high ∙ ap (λ (b : ℕ). b ∷ drop (k + 1) word) at in
    (sym (take-append-drop k word) ∙ ap (λ (r : List ℕ). take k word ++ r) rest, none_up word k (omega (arith, h.0.high)) (λ j below. h.0.before j (omega arith) below))

-- a word with no `x`
pub no_parts : (word : List ℕ) → IsFirstByte (is_byte 120) word None → list_any is_x word ≡ false
no_parts word h = ap (list_any is_x) (sym (take_all (length word) word (omega arith))) ∙ none_up word (length word) (omega arith) (λ j below. h j (omega arith) below)

second_holds : (a b c : Bool) (v n : ℕ) → cond (a && b && c) (Some v) None ≡ Some n → b ≡ true
second_holds a true c v n e = refl
second_holds true false c v n e = let bad : ⊥ = cc in absurd bad
second_holds false false c v n e = let bad : ⊥ = cc in absurd bad

-- digits have no `x`
digits_alone : (word : List ℕ) → list_all is_ascii_digit word ≡ true → list_any is_x word ≡ false
digits_alone [] all = refl
digits_alone (b ∷ word) all =
    let both = and_parts (is_ascii_digit b) (list_all is_ascii_digit word) all in
    let within : IsInRange 48 57 b = let digit = both.0 in grind (arith, leb_tells) in
    rw (ne_eqb b 120 (λ same. omega (arith, within, same)), digits_alone word both.1) refl

number_alone : (word : List ℕ) (n : ℕ) → number_in word ≡ Some n → list_any is_x word ≡ false
number_alone word n e = digits_alone word (second_holds (nat_lt 0 (length word)) (list_all is_ascii_digit word) (nat_lt (digits_value 10 word) (2 ^ 64)) (digits_value 10 word) n e)

-- a word that an `x` separates into two parts has one
parts_have : (word before after : List ℕ) → word ≡ before ++ (codes "x" ++ after) → list_any is_x word ≡ true
parts_have word before after parts = ap (list_any is_x) parts ∙ list_any-append is_x before (120 ∷ after) ∙ or_right (list_any is_x before) true refl

-- the parts before and after the first `x` of a text are determined by the text
parts_alike : (a b c d : List ℕ) → list_any is_x a ≡ false → list_any is_x c ≡ false → a ++ 120 ∷ b ≡ c ++ 120 ∷ d → (a ≡ c) × (b ≡ d)
parts_alike [] b [] d p q e = (refl, cc)
parts_alike [] b (y ∷ c) d p q e =
    let same : y ≡ 120 = cc in
    absurd (eqb-false y 120 (or_parts (y == 120) (list_any is_x c) q).0 same)
parts_alike (x ∷ a) b [] d p q e =
    let same : x ≡ 120 = cc in
    absurd (eqb-false x 120 (or_parts (x == 120) (list_any is_x a) p).0 same)
parts_alike (x ∷ a) b (y ∷ c) d p q e =
    let first : x ≡ y = cc in
    let rest : a ++ 120 ∷ b ≡ c ++ 120 ∷ d = cc in
    let more = parts_alike a b c d (or_parts (x == 120) (list_any is_x a) p).1 (or_parts (y == 120) (list_any is_x c) q).1 rest in
    (cc (first, more.0), more.1)

pub none_some : (o : Option ℕ) (n : ℕ) → o ≡ None → o ≡ Some n → ⊥
none_some o n none some = let bad : ⊥ = cc in bad

-- a word with an `x` writes no size but that of a wrap log
pub no_wrap : (word before after : List ℕ) → word ≢ codes "inf" → word ≡ before ++ (codes "x" ++ after) → list_any is_x before ≡ false
    → ((bytes files : ℕ) → number_in before ≡ Some bytes → small_of (number_in after) ≡ Some files → ⊥) → (size : Size) → WritesSize word size → ⊥
no_wrap word before after other parts alone none Infinity writes = other writes
no_wrap word before after other parts alone none (Limit n) writes = both_ways (list_any is_x word) (parts_have word before after parts) (number_alone word n writes)
no_wrap word before after other parts alone none (Wrap bytes files) writes =
    let alike = parts_alike before after writes.0 writes.1 alone (number_alone writes.0 bytes writes.2) (sym parts ∙ writes.4) in
    none bytes files (ap number_in alike.0 ∙ writes.2) (ap (λ (text : List ℕ). small_of (number_in text)) alike.1 ∙ writes.3)
