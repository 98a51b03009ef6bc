-- Whether a word is a number, by as much of it as was read.
use Rattle.std.proofs.Common.{◌≡◌, ℕ, zero, suc, ◌+◌, ◌*◌, ◌^◌, ◌<◌, ◌≤◌, Bool, true, false, ◌&&◌, cond, Some, None, List, [], ◌∷◌, length, take, get_or, refl, nat_lt, arith}
use Rattle.std.specs.List.{list_all}
use Rattle.std.specs.Char.{is_ascii_digit, digit_value}
use Rattle.std.specs.Str.Parse.{digits_value, digits_value_after}
use Rattle.std.proofs.lemmas.Bool.{lt-ltb, le-ltb}
use Rattle.std.proofs.lemmas.List.Folds.{list_all_at}
use Rattle.std.proofs.lemmas.Int.Digits.{digits_value_more}
use Rattle.std.specs.Int.{IsInRange}
use Rattle.std.proofs.lemmas.Bool.Decides.{leb_tells}
use Rattle.std.proofs.lemmas.Str.{digit_value_digit}
use Rattle.dl_app.specs.Words.{number_in}

after_ge : (n : ℕ) (cs : List ℕ) → n ≤ digits_value_after 10 n cs
after_ge n [] = omega arith
after_ge n (c ∷ cs) = omega (arith, after_ge (n * 10 + digit_value c) cs)

prefix_after_le : (n : ℕ) (cs : List ℕ) (i : ℕ) → digits_value_after 10 n (take i cs) ≤ digits_value_after 10 n cs
prefix_after_le n cs zero = after_ge n cs
prefix_after_le n [] (suc i) = omega arith
prefix_after_le n (c ∷ cs) (suc i) = prefix_after_le (n * 10 + digit_value c) cs i

no_digits : (a b : Bool) (v : ℕ) → cond (a && false && b) (Some v) None ≡ None
no_digits true b v = refl
no_digits false b v = refl

too_large : (a b : Bool) (v : ℕ) → cond (a && b && false) (Some v) None ≡ None
too_large true true v = refl
too_large true false v = refl
too_large false b v = refl

-- a byte that is no digit
pub bad_digit : (word : List ℕ) (i : ℕ) → i < length word → is_ascii_digit (get_or word i 0) ≡ false → number_in word ≡ None
bad_digit word i within bad =
    rw (list_all_at is_ascii_digit word i 0 within bad) (no_digits (nat_lt 0 (length word)) (nat_lt (digits_value 10 word) (2 ^ 64)) (digits_value 10 word))

-- a word whose number is too large with one digit more than was read
pub overflows : (word : List ℕ) (i : ℕ) → i < length word → 2 ^ 64 ≤ digits_value 10 (take i word) * 10 + digit_value (get_or word i 0) → number_in word ≡ None
overflows word i within large =
    let more = prefix_after_le 0 word (i + 1) in
    let read = digits_value_more 10 word i within in
    let much : 2 ^ 64 ≤ digits_value 10 word = omega arith in
    rw (le-ltb (digits_value 10 word) (2 ^ 64) much) (too_large (nat_lt 0 (length word)) (list_all is_ascii_digit word) (digits_value 10 word))

-- a word of digits alone
pub is_number : (word : List ℕ) → 0 < length word → list_all is_ascii_digit word ≡ true → digits_value 10 word < 2 ^ 64 → number_in word ≡ Some (digits_value 10 word)
is_number word some digits small =
    rw (lt-ltb 0 (length word) some, digits, lt-ltb (digits_value 10 word) (2 ^ 64) small) refl

-- the value of a digit
pub digit_of : (b : ℕ) → is_ascii_digit b ≡ true → digit_value b + 48 ≡ b
digit_of b e = let h : IsInRange 48 57 b = grind (arith, leb_tells) in digit_value_digit b h
