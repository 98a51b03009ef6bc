-- Items as words of a line.
use Rattle.std.specs.Prelude.{◌≡◌, ℕ, ◌-◌, List, Bool, ◌||◌, ◌&&◌, ◌==◌, nat_lt, nat_le, Option, Some, None, is_some, length, take, slice_index, replicate, if◌then◌else◌}
use Rattle.std.specs.Borrow.{Bor}
use Rattle.std.specs.List.{list_all, list_any}
use Rattle.std.specs.Char.{is_ascii_graphic}
use Rattle.dl_types.specs.declared.limits.TheConstants.{ITEM_LIMIT}
use Rattle.dl_types.specs.declared.refusal.Argument.TheVariants as argument
use Rattle.dl_types.specs.declared.refusal.Refusal.{Refusal}
use Rattle.dl_types.specs.declared.refusal.Refusal.TheVariants as refusal
use Rattle.dl_types.specs.Name.{is_name_byte}
use Rattle.dl_app.specs.Words.{number_in}
use Rattle.dl_app.specs.declared.items.Written.{Written}
use Rattle.dl_app.specs.declared.items.Written.TheVariants.{Plain, Copies}

-- a letter, a digit, `_`, `-` or `.`
abbrev pub is_item_byte : ℕ → Bool
is_item_byte b = is_name_byte b || b == 46

-- the character that a word such as `10*a` copies
abbrev pub copied_in : List ℕ → ℕ
copied_in word = slice_index word (length word - 1)

-- how many copies it asks for
abbrev pub copies_in : List ℕ → Option ℕ
copies_in word =
    if nat_le 2 (length word) && slice_index word (length word - 2) == 42 && is_ascii_graphic (copied_in word)
    then number_in (take (length word - 2) word) else None

-- a word that writes an item
abbrev pub is_item : List ℕ → Bool
is_item word = is_some (copies_in word) || (nat_lt 0 (length word) && list_all is_item_byte word)

abbrev pub bytes_from : Option ℕ → List ℕ → List ℕ
bytes_from None word = word
bytes_from (Some count) word = replicate count (copied_in word)

-- the bytes of the item
abbrev pub item_bytes : List ℕ → List ℕ
item_bytes word = bytes_from (copies_in word) word

-- a word whose item is longer than an item may be
abbrev pub is_too_long : List ℕ → Bool
is_too_long word = nat_lt ITEM_LIMIT (length (item_bytes word))

-- why the items of these words are refused
abbrev pub refusal_of : List (List ℕ) → Option Refusal
refusal_of words =
    if list_any is_too_long words then Some (refusal.BadArg argument.Item)
    else (if length words == 0 then Some (refusal.BadArg argument.Items) else None)

-- the item of a word, if there is one
abbrev pub head_bytes : Option (Bor (List ℕ)) → Option (List ℕ)
head_bytes None = None
head_bytes (Some word) = Some (item_bytes word.now)

-- why that item is refused
abbrev pub head_refusal : Option (Bor (List ℕ)) → Option Refusal
head_refusal None = None
head_refusal (Some word) = if is_too_long word.now then Some (refusal.BadArg argument.Item) else None

-- what a word is read as
abbrev pub IsReadAs : List ℕ → Written → Type 0
IsReadAs word (Plain bytes) = (copies_in word ≡ None) × (bytes.now ≡ word)
IsReadAs word (Copies count of) = (copies_in word ≡ Some count) × (of ≡ copied_in word)
