-- The words of a line, and the numbers that they write.
use Rattle.std.specs.Prelude.{◌≡◌, ℕ, ℤ, pos, negsuc, neg_ℤ, List, [], ◌∷◌, ◌++◌, Bool, ◌==◌, ◌&&◌, ◌^◌, Option, Some, None, codes, nat_lt, length, if◌then◌else◌}
use Rattle.std.specs.Borrow.{Bor}
use Rattle.std.specs.List.{slice_split, list_all}
use Rattle.std.specs.Option.{option_map}
use Rattle.std.specs.Char.{is_ascii_digit}
use Rattle.std.specs.Str.Parse.{digits_value}
use Rattle.dl_types.specs.declared.name.ClientId.{ClientId}
use Rattle.dl_types.specs.declared.size.Size.{Size}
use Rattle.dl_types.specs.declared.size.Size.TheVariants.{Infinity, Limit, Wrap}
use Rattle.dl_app.specs.declared.words.Words.{Words}

-- the words of a text, separated by one space each
abbrev pub words_of : List ℕ → List (List ℕ)
words_of text = slice_split (λ b. b == 32) text

abbrev pub words_in : Option (Bor (List ℕ)) → List (List ℕ)
words_in None = []
words_in (Some text) = words_of text.now

-- the words that are still to be read
abbrev pub words_left : Words → List (List ℕ)
words_left words = words_in words.rest

-- the number that a word of one digit or more writes, if it fits 64 bits
abbrev pub number_in : List ℕ → Option ℕ
number_in word =
    if nat_lt 0 (length word) && list_all is_ascii_digit word && nat_lt (digits_value 10 word) (2 ^ 64)
    then Some (digits_value 10 word) else None

-- the client of a number, if the number fits 32 bits
abbrev pub client_of : Option ℕ → Option ClientId
client_of None = None
client_of (Some n) = if nat_lt n (2 ^ 32) then Some (record { 0 = n }) else None

-- the whole number that digits write, or a minus sign and digits: `-0` writes 0, and zeros may lead
abbrev pub whole_in : List ℕ → Option ℤ
whole_in [] = None
whole_in (b ∷ bytes) = if b == 45 then option_map (λ n. neg_ℤ (pos n)) (number_in bytes) else option_map pos (number_in (b ∷ bytes))

-- a whole number from -2147483648 to 2147483647
abbrev pub has_32_bits : ℤ → Bool
has_32_bits (pos n) = nat_lt n (2 ^ 31)
has_32_bits (negsuc n) = nat_lt n (2 ^ 31)

-- the number of files that a step leads on, if it fits 32 bits
abbrev pub step_of : Option ℤ → Option ℤ
step_of None = None
step_of (Some n) = if has_32_bits n then Some n else None

-- a number, if it fits 32 bits
abbrev pub small_of : Option ℕ → Option ℕ
small_of None = None
small_of (Some n) = if nat_lt n (2 ^ 32) then Some n else None

-- a word writes this size: `inf`, a number, or the bytes of a file, an `x` and the number of files
abbrev pub WritesSize : List ℕ → Size → Type 0
WritesSize word Infinity = word ≡ codes "inf"
WritesSize word (Limit n) = number_in word ≡ Some n
WritesSize word (Wrap bytes files) =
    (before : List ℕ) × (after : List ℕ) × (number_in before ≡ Some bytes) × (small_of (number_in after) ≡ Some files) × (word ≡ before ++ (codes "x" ++ after))
