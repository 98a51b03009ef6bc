-- A folder: which of its files are kept open and how long they are, and what a draft is called.
use Rattle.std.specs.Prelude.{◌≡◌, ◌++◌, ℕ, List, Option, None, Some, codes, option_map}
use Rattle.std.specs.Map.{lookup}
use Rattle.dl_types.specs.declared.file.FileName.{FileName}
use Rattle.dl_types.specs.contracts.file.FileNamePartialEq.TheImpl.{ghosts as file_ghosts}
use Rattle.dl_types.specs.Printed.{printed_file}
use Rattle.dl_disk.specs.declared.folder.opened.Opened.{Opened}

-- the file that is kept open under this name
abbrev pub kept_as : List (FileName × Opened) → FileName → Option Opened
kept_as kept name = lookup (file_ghosts.eq name) kept

-- no file is kept open under this name
abbrev pub IsClosed : List (FileName × Opened) → FileName → Type 0
IsClosed kept name = kept_as kept name ≡ None

-- the file that is kept open under this name was opened under it
abbrev pub IsKept : List (FileName × Opened) → FileName → Type 0
IsKept kept name = (opened : Opened) × (kept_as kept name ≡ Some opened) × (opened.name ≡ name)

-- how long the file that is kept open under this name is known to be
abbrev pub known_length : List (FileName × Opened) → FileName → Option ℕ
known_length kept name = option_map (λ opened. opened.length) (kept_as kept name)

-- what the draft of a file is called
abbrev pub draft_name : FileName → List ℕ
draft_name file = printed_file file ++ codes ".new"
