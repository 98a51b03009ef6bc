-- Which files of a folder may have bytes that are not on the device, and which of its names may not be.
use Rattle.std.specs.Prelude.{◌≡◌, ◌&&◌, ◌||◌, ℕ, Bool, Option, Some, None, [], false, not, IsTrue}
use Rattle.indexmap.specs.IndexMap.{get}
use Rattle.indexmap.specs.IndexSet.{IndexSet, contains, index_set_len}
use Rattle.dl_types.specs.Name.{same_base}
use Rattle.dl_types.specs.declared.file.FileName.{FileName}
use Rattle.dl_types.specs.contracts.file.FileNamePartialEq.TheImpl.{ghosts as file_ghosts}
use Rattle.dl_types.specs.declared.name.Base.{Base}
use Rattle.dl_types.specs.contracts.name.BasePartialEq.TheImpl.{ghosts as base_ghosts}
use Rattle.dl_disk.specs.declared.folder.by_base.FilesByBase.{FilesByBase}
use Rattle.dl_disk.specs.declared.folder.owed.Owed.{Owed}
use Rattle.dl_disk.specs.declared.folder.owed_names.OwedNames.{OwedNames}

module _ {S : Type 0} where
  -- a file is among those that are known under its base
  abbrev pub is_known : Option (IndexSet FileName S) → FileName → Bool
  is_known (Some files) file = contains file_ghosts.eq files file
  is_known None file = false

  -- how many files are known under a base
  abbrev pub how_many : Option (IndexSet FileName S) → ℕ
  how_many (Some files) = index_set_len files
  how_many None = 0

abbrev pub has_file : FilesByBase → FileName → Bool
has_file files file = is_known (get base_ghosts.eq files.bases file.base) file

abbrev pub count_under : FilesByBase → Base → ℕ
count_under files base = how_many (get base_ghosts.eq files.bases base)

-- a file was written since it was last synced
abbrev pub owes : Owed → FileName → Bool
owes owed file = has_file owed.files file

-- a sync of a file is running without the disk
abbrev pub is_running : Owed → FileName → Bool
is_running owed file = contains file_ghosts.eq owed.doubtful file && contains file_ghosts.eq owed.running file

-- a sync of a file failed since it was put
abbrev pub is_lost : Owed → FileName → Bool
is_lost owed file = contains file_ghosts.eq owed.doubtful file && not (contains file_ghosts.eq owed.running file)

-- a file is known not to have been written since it was synced or put, or since its sync without the disk began
abbrev pub is_unchanged : Owed → FileName → Bool
is_unchanged owed file = contains file_ghosts.eq owed.unchanged file

-- all bytes of a file are known to be on the device
abbrev pub is_clean : Owed → FileName → Bool
is_clean owed file = is_unchanged owed file && not (owes owed file) && not (contains file_ghosts.eq owed.doubtful file)

-- it has the base of a file, and is another
abbrev pub is_beside : FileName → FileName → Bool
is_beside file other = same_base other.base file.base && not (file_ghosts.eq other file)

-- no other file under the base of this one owes bytes
abbrev pub IsSettledBeside : Owed → FileName → Type 0
IsSettledBeside owed file = (other : FileName) → IsTrue (is_beside file other) → owes owed other ≡ false

-- what a sync failed at stays so
abbrev pub KeepsLost : Owed → Owed → Type 0
KeepsLost old new = (file : FileName) → IsTrue (is_lost old file) → IsTrue (is_lost new file)

-- no file owes bytes that did not
abbrev pub KeepsSettled : Owed → Owed → Type 0
KeepsSettled old new = (file : FileName) → owes old file ≡ false → owes new file ≡ false

-- a name under this base may not be durable, or one that was not put as new
abbrev pub owes_name : OwedNames → Base → Bool
owes_name names base = names.changed || contains base_ghosts.eq names.begun base

-- all names are durable
abbrev pub OwesNoName : OwedNames → Type 0
OwesNoName names = (names.changed ≡ false) × (names.begun.keys ≡ [])
