-- Parts as they are read from left to right: a value and the bytes after it, or how many bytes are left at the first part
-- that is wrong.
use Rattle.std.specs.Prelude.{◌≡◌, ◌&&◌, ℕ, ℤ, zero, suc, List, [], ◌∷◌, length, take, drop, Bool, Option, Some, None, Result, Ok, Err, nat_lt, nat_le, if◌then◌else◌}
use Rattle.std.specs.Int.{Width, w32, w64, byte_len, from_be_bytes, cast_signed}
use Rattle.std.specs.List.{slice_get, list_all}
use Rattle.dl_types.specs.declared.limits.TheConstants.{NAME_LIMIT, ITEM_LIMIT}
use Rattle.dl_types.specs.declared.name.Base.{Base}
use Rattle.dl_types.specs.declared.name.Name.{Name}
use Rattle.dl_types.specs.declared.size.Size.{Size}
use Rattle.dl_types.specs.declared.size.Size.TheVariants as size
use Rattle.dl_types.specs.Name.{is_name_byte, name_of, base_from}
use Rattle.dl_wire.specs.declared.fault.ReadFault.{ReadFault}
use Rattle.dl_wire.specs.declared.fault.ReadFault.TheVariants as fault

-- what is read of some bytes
abbrev pub Read : Type 0 → Type 0
Read X = Result (X × List ℕ) ℕ

infixl 10 ◌>>=◌
abbrev pub ◌>>=◌ : {A B : Type 0} → Result A ℕ → (A → Result B ℕ) → Result B ℕ
(Ok x) >>= f = f x
(Err left) >>= f = Err left

-- a function read this value and no other, or was refused memory
abbrev pub Fails : {Y : Type 0} → ReadFault → Result Y ℕ → Type 0
Fails fault.OutOfMemory read = Unit {0}
Fails (fault.Left left) read = read ≡ Err left

abbrev pub Gives : {X Y : Type 0} → (X → Y) → Result X ReadFault → Result Y ℕ → Type 0
Gives view (Ok x) read = read ≡ Ok (view x)
Gives view (Err e) read = Fails e read

abbrev pub number_at : Width → List ℕ → Read ℕ
number_at w bytes = if nat_lt (length bytes) (byte_len w) then Err (length bytes) else Ok (from_be_bytes w (take (byte_len w) bytes), drop (byte_len w) bytes)

unfoldable pub i32_at : List ℕ → Read ℤ
i32_at bytes = do
  n ← number_at w32 bytes
  Ok (cast_signed w32 n.0, n.1)

-- what a choice of these bytes gives, after which the rest stands
abbrev pub chosen : {X : Type 0} → Option X → List ℕ → Read X
chosen None rest = Err (suc (length rest))
chosen (Some x) rest = Ok (x, rest)

-- one of some choices, by its place among them
unfoldable pub choice_at : {X : Type 0} → List X → List ℕ → Read X
choice_at choices [] = Err 0
choice_at choices (code ∷ rest) = chosen (slice_get choices code) rest

-- a text after its length in one byte
unfoldable pub short_at : List ℕ → Read (List ℕ)
short_at [] = Err 0
short_at (n ∷ rest) = if nat_lt (length rest) n then Err (suc (length rest)) else Ok (take n rest, drop n rest)

abbrev pub is_name_text : List ℕ → Bool
is_name_text text = nat_lt 0 (length text) && nat_le (length text) NAME_LIMIT && list_all is_name_byte text

unfoldable pub name_at : List ℕ → Read Name
name_at bytes = do
  text ← short_at bytes
  if is_name_text text.0 then Ok (name_of text.0, text.1) else Err (length bytes)

unfoldable pub base_at : List ℕ → Read Base
base_at bytes = do
  text ← short_at bytes
  if is_name_text text.0 then Ok (base_from text.0, text.1) else Err (length bytes)

-- an item after its length, which is within the limit
unfoldable pub item_at : List ℕ → Read (List ℕ)
item_at bytes = do
  n ← number_at w32 bytes
  if nat_lt ITEM_LIMIT n.0 then Err (length bytes) else if nat_lt (length n.1) n.0 then Err (length bytes) else Ok (take n.0 n.1, drop n.0 n.1)

-- so many parts, one after another
unfoldable pub many_at : {X : Type 0} → (List ℕ → Read X) → ℕ → List ℕ → Read (List X)
many_at part_at zero bytes = Ok ([], bytes)
many_at part_at (suc n) bytes = do
  first ← part_at bytes
  others ← many_at part_at n first.1
  Ok (first.0 ∷ others.0, others.1)

-- items after their number, of which there is at least one
unfoldable pub list_at : List ℕ → Read (List (List ℕ))
list_at bytes = do
  n ← number_at w32 bytes
  items ← many_at item_at n.0 n.1
  if nat_lt 0 (length items.0) then Ok items else Err (length bytes)

-- names after their number
unfoldable pub names_at : List ℕ → Read (List Name)
names_at bytes = do
  n ← number_at w32 bytes
  many_at name_at n.0 n.1

-- a part that may be missing
unfoldable pub option_at : {X : Type 0} → (List ℕ → Read X) → List ℕ → Read (Option X)
option_at part_at [] = Err 0
option_at part_at (zero ∷ rest) = Ok (None, rest)
option_at part_at (suc zero ∷ rest) = do
  x ← part_at rest
  Ok (Some x.0, x.1)
option_at part_at (suc (suc b) ∷ rest) = Err (suc (length rest))

unfoldable pub size_at : List ℕ → Read Size
size_at [] = Err 0
size_at (zero ∷ rest) = Ok (size.Infinity, rest)
size_at (suc zero ∷ rest) = do
  n ← number_at w64 rest
  Ok (size.Limit n.0, n.1)
size_at (suc (suc zero) ∷ rest) = do
  bytes ← number_at w64 rest
  files ← number_at w32 bytes.1
  Ok (size.Wrap bytes.0 files.0, files.1)
size_at (suc (suc (suc b)) ∷ rest) = Err (suc (length rest))
