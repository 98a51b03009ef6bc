-- The info of a log as bytes.
use Rattle.std.specs.Prelude.{ℕ, List, [], ◌∷◌, ◌++◌, Bool, true, false, Option, Some, None, codes}
use Rattle.std.specs.Fmt.{decimal}
use Rattle.std.specs.List.{flat_map}
use Rattle.dl_types.specs.declared.info.Extent.{Extent}
use Rattle.dl_types.specs.declared.info.Extent.TheVariants as extent
use Rattle.dl_types.specs.declared.info.Info.{Info}
use Rattle.dl_types.specs.declared.info.Overflows.{Overflows}
use Rattle.dl_types.specs.declared.info.Writing.{Writing}
use Rattle.dl_types.specs.declared.name.Base.{Base}
use Rattle.dl_types.specs.declared.name.Name.{Name}
use Rattle.dl_types.specs.declared.owner.Owner.{Owner}
use Rattle.dl_types.specs.declared.size.Kind.{Kind}
use Rattle.dl_types.specs.declared.size.Mode.{Mode}
use Rattle.dl_types.specs.declared.size.Size.{Size}
use Rattle.dl_types.specs.Name.{name_text, base_text}
use Rattle.dl_types.specs.Printed.{characters_of, size_text, kind_word}
use Rattle.dl_lines.specs.Digits.{hex}
use Rattle.dl_app.specs.Options.{mode_word}

-- the word of a truth
abbrev pub yes_or_no : Bool → List ℕ
yes_or_no true = codes "yes"
yes_or_no false = codes "no"

-- the name and the base
abbrev pub names_text : Name → Base → List ℕ
names_text log base = codes "info " ++ characters_of (name_text log) ++ codes " " ++ characters_of (base_text base)

-- the kind, the size and the mode
abbrev pub form_text : Kind → Size → Mode → List ℕ
form_text kind size mode = codes " " ++ kind_word kind ++ codes " " ++ size_text size ++ codes " " ++ mode_word mode

-- an owner, and whether it wants notices
abbrev pub owner_text : Owner → List ℕ
owner_text owner = decimal owner.client.0 ++ codes ":" ++ yes_or_no owner.notify

-- an owner after a comma
abbrev pub next_owner_text : Owner → List ℕ
next_owner_text owner = 44 ∷ owner_text owner

-- owners, separated by commas
abbrev pub owners_text : List Owner → List ℕ
owners_text [] = codes "none"
owners_text (owner ∷ owners) = owner_text owner ++ flat_map next_owner_text owners

-- whether a block has calls suspended or refused, or that there is none
abbrev pub status_word : Option Bool → List ℕ
status_word None = codes "ok"
status_word (Some true) = codes "blocked-queue"
status_word (Some false) = codes "blocked-refuse"

-- the number of anonymous users, and the block
abbrev pub users_text : ℕ → Option Bool → List ℕ
users_text users blocked = codes " users=" ++ decimal users ++ codes " " ++ status_word blocked

-- how often the log went to its next file: since it was opened, and since the last info
abbrev pub overflows_text : Overflows → List ℕ
overflows_text overflows = codes " overflows=" ++ decimal overflows.since_open ++ codes "," ++ decimal overflows.since_info

-- of a wrap log the bytes and the items of the current file, the items of all files, and the number of the current file
abbrev pub files_text : ℕ → ℕ → ℕ → ℕ → List ℕ
files_text bytes items all file =
    codes " bytes=" ++ decimal bytes ++ codes " items=" ++ decimal items ++ codes " all=" ++ decimal all ++ codes " file=" ++ decimal file

-- whether a halt log is full, or how far the files of a wrap log have come
abbrev pub extent_text : Extent → List ℕ
extent_text (extent.Halt full) = codes " full=" ++ yes_or_no full
extent_text (extent.Wrap bytes items all file overflows) = files_text bytes items all file ++ overflows_text overflows

-- the head item, or that there is none
abbrev pub head_text : Option (List ℕ) → List ℕ
head_text None = codes "none"
head_text (Some []) = codes "-"
head_text (Some (b ∷ bytes)) = flat_map hex (b ∷ bytes)

-- the most blocks that the log may have, or that there is no such number
abbrev pub hold_text : Option ℕ → List ℕ
hold_text None = codes " hold=none"
hold_text (Some blocks) = codes " hold=" ++ decimal blocks

-- the fields that only a log in read-write mode has
abbrev pub writing_text : {Z : Type 0} → Writing Z → List ℕ
writing_text writing =
    codes " head=" ++ head_text writing.head ++ codes " written=" ++ decimal writing.written ++ extent_text writing.extent ++ hold_text writing.hold

abbrev pub more_text : {Z : Type 0} → Option (Writing Z) → List ℕ
more_text None = []
more_text (Some writing) = writing_text writing

-- the info of a log
abbrev pub info_text : {Z : Type 0} → Info Z → List ℕ
info_text info =
    names_text info.log info.base ++ form_text info.kind info.size info.mode ++ codes " owners=" ++ owners_text info.owners ++ users_text info.users info.blocked ++ more_text info.writing
