-- Bytes in hexadecimal.
use Rattle.std.specs.Prelude.{ℕ, ◌/◌, ◌%◌, List, [], ◌∷◌, slice_index}
use Rattle.dl_lines.specs.declared.digits.TheConstants.{DIGITS}

-- the digit of a number below 16
abbrev pub digit : ℕ → ℕ
digit number = slice_index DIGITS number

-- a byte in two digits
abbrev pub hex : ℕ → List ℕ
hex byte = digit (byte / 16) ∷ digit (byte % 16) ∷ []
