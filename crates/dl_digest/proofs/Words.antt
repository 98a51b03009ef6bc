-- Words without a space.
use Rattle.std.proofs.Common.{◌≡◌, ◌≢◌, ◌<◌, ◌^◌, ℕ, true, List, [], ◌∷◌, All, get_or, subst, arith}
use Rattle.std.specs.Fmt.{decimal}
use Rattle.std.specs.Char.{digit_value}
use Rattle.std.specs.Str.Parse.{AllDigits}
use Rattle.std.proofs.lemmas.Fmt.{decimal_is_IsNumeral}
use Rattle.std.proofs.lemmas.List.Elements.{All-cons, All-nil, All-get_or, All-from_get_or}
use Rattle.dl_types.specs.Name.{is_name_byte, IsNameText}
use Rattle.dl_digest.specs.declared.line.Extent.{Extent}
use Rattle.dl_digest.specs.declared.line.Extent.TheVariants as extent
use Rattle.dl_digest.specs.Line.{extent_text, IsExtent}

digits_word : (ds : List ℕ) → AllDigits 10 ds → All (λ b. b ≢ 32) ds
digits_word [] digits = All-nil (λ b. b ≢ 32)
digits_word (c ∷ cs) digits =
    let other : c ≢ 32 = λ is. let h : digit_value 32 < 10 = subst (λ (x : ℕ). digit_value x < 10) is digits.0 in omega (arith, h) in
    All-cons (λ b. b ≢ 32) c cs other (digits_word cs digits.1)

-- a number has no space
pub decimal_word : (n : ℕ) → n < 2 ^ 64 → All (λ b. b ≢ 32) (decimal n)
decimal_word n small = digits_word (decimal n) (decimal_is_IsNumeral n small).0.1

letter_other : (b : ℕ) → is_name_byte b ≡ true → b ≢ 32
letter_other b letter is =
    let h : is_name_byte 32 ≡ true = subst (λ (x : ℕ). is_name_byte x ≡ true) is letter in cc

-- a name has none
pub name_word : (text : List ℕ) → IsNameText text → All (λ b. b ≢ 32) text
name_word text name = All-from_get_or (λ b. b ≢ 32) text 0 (λ i below. letter_other (get_or text i 0) (All-get_or (λ b. is_name_byte b ≡ true) text i 0 below name.plain))

-- a number does not begin as a word of letters does
pub decimal_begins : (n c : ℕ) (cs : List ℕ) → n < 2 ^ 64 → decimal n ≡ c ∷ cs → digit_value c < 10
decimal_begins n c cs small is = (subst (AllDigits 10) is (decimal_is_IsNumeral n small).0.1).0

-- what a digest is of has none
pub extent_word : (e : Extent) → IsExtent e → All (λ b. b ≢ 32) (extent_text e)
extent_word (extent.File generation) is = decimal_word generation is
extent_word extent.All is =
    All-cons (λ b. b ≢ 32) 97 (108 ∷ 108 ∷ []) (omega arith) (All-cons (λ b. b ≢ 32) 108 (108 ∷ []) (omega arith) (All-cons (λ b. b ≢ 32) 108 [] (omega arith) (All-nil (λ b. b ≢ 32))))
