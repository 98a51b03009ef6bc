-- The parts of a frame as bytes. Each number has its highest byte first.
use Rattle.std.specs.Prelude.{ℕ, ℤ, List, [], ◌∷◌, ◌++◌, length, Bool, true, false, Option, Some, None}
use Rattle.std.specs.Int.{w16, w32, w64, to_be_bytes, cast_unsigned}
use Rattle.std.specs.List.{flat_map}
use Rattle.dl_types.specs.declared.place.Continuation.{Continuation}
use Rattle.dl_types.specs.declared.place.Place.{Place}
use Rattle.dl_types.specs.declared.place.Place.TheVariants.{Start, At}
use Rattle.dl_types.specs.declared.size.Kind.{Kind}
use Rattle.dl_types.specs.declared.size.Kind.TheVariants as kind
use Rattle.dl_types.specs.declared.size.Link.{Link}
use Rattle.dl_types.specs.declared.size.Link.TheVariants as link
use Rattle.dl_types.specs.declared.size.Mode.{Mode}
use Rattle.dl_types.specs.declared.size.Mode.TheVariants as mode
use Rattle.dl_types.specs.declared.size.Repair.{Repair}
use Rattle.dl_types.specs.declared.size.Repair.TheVariants as repair
use Rattle.dl_types.specs.declared.size.Size.{Size}
use Rattle.dl_types.specs.declared.size.Size.TheVariants as size

-- numbers of two, four and eight bytes
unfoldable pub u16_text : ℕ → List ℕ
u16_text n = to_be_bytes w16 n

unfoldable pub u32_text : ℕ → List ℕ
u32_text n = to_be_bytes w32 n

unfoldable pub u64_text : ℕ → List ℕ
u64_text n = to_be_bytes w64 n

-- a signed number of four bytes, in two's complement
abbrev pub i32_text : ℤ → List ℕ
i32_text z = u32_text (cast_unsigned w32 z)

-- a text after its length in one byte
abbrev pub short_text : List ℕ → List ℕ
short_text text = length text ∷ text

-- bytes after their length in four
abbrev pub bytes_text : List ℕ → List ℕ
bytes_text bytes = u32_text (length bytes) ++ bytes

-- parts after their number in four bytes
abbrev pub list_text : {X : Type 0} → (X → List ℕ) → List X → List ℕ
list_text text xs = u32_text (length xs) ++ flat_map text xs

-- 0 for none, and 1 before the part
abbrev pub option_text : {X : Type 0} → (X → List ℕ) → Option X → List ℕ
option_text text None = 0 ∷ []
option_text text (Some x) = 1 ∷ text x

abbrev pub bool_code : Bool → ℕ
bool_code false = 0
bool_code true = 1

abbrev pub kind_code : Kind → ℕ
kind_code kind.Halt = 0
kind_code kind.Wrap = 1

abbrev pub mode_code : Mode → ℕ
mode_code mode.ReadWrite = 0
mode_code mode.ReadOnly = 1

abbrev pub repair_code : Repair → ℕ
repair_code repair.Yes = 0
repair_code repair.No = 1
repair_code repair.Truncate = 2

abbrev pub link_code : Link → ℕ
link_code link.Owner = 0
link_code link.Anonymous = 1

-- 0 for infinity, 1 before a limit, 2 before the bytes and the number of files of a wrap log
abbrev pub size_text : Size → List ℕ
size_text size.Infinity = 0 ∷ []
size_text (size.Limit n) = 1 ∷ u64_text n
size_text (size.Wrap bytes files) = 2 ∷ (u64_text bytes ++ u32_text files)

-- a generation, how many items are passed, and whether the bad bytes after them were reported
abbrev pub position_text : Continuation → List ℕ
position_text c = u64_text c.generation ++ (u64_text c.passed ++ bool_code c.told ∷ [])

-- 0 for the start, and 1 before a position
abbrev pub place_text : Place → List ℕ
place_text Start = 0 ∷ []
place_text (At c) = 1 ∷ position_text c
