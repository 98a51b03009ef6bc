-- Files of a folder that belong to no log.
use Rattle.std.specs.Prelude.{◌≡◌, ◌↔◌, IsSome, Contains, List}
use Rattle.dl_tool.specs.Words.{Base, Content, FileName}
use Rattle.std.specs.FinMap as map
use Rattle.dl_disk.specs.declared.fault.ListFault.{ListFault}
use Rattle.dl_disk.specs.declared.fault.ListFault.TheVariants as list
use Rattle.dl_tool.specs.declared.finding.CheckFault.{CheckFault}
use Rattle.dl_tool.specs.declared.finding.CheckFault.TheVariants as check
use Rattle.dl_tool.specs.declared.stray.StrayFault.{StrayFault}
use Rattle.dl_tool.specs.declared.stray.StrayFault.TheVariants as stray
use Rattle.dl_tool.specs.Named.{index_of, IsLeftOut}

-- a numbered file is there, and its base has nothing in the place of its index, or an index that does not name the file
pub record IsStray (content : Content) (f : FileName) : Type 0 where
  pub there : IsSome (map.get content f)
  pub unnamed : IsLeftOut (index_of content f.base) f.part

-- these are all of them
abbrev pub AreStrays : Content → List FileName → Type 0
AreStrays content files = (f : FileName) → Contains files f ↔ IsStray content f

-- these are all of them that have this base
abbrev pub AreStraysOf : Content → Base → List FileName → Type 0
AreStraysOf content base files = (f : FileName) → Contains files f ↔ ((f.base ≡ base) × IsStray content f)

-- these are all numbered files of these names that no index names
abbrev pub ArePicked : Content → List FileName → List FileName → Type 0
ArePicked content names files = (f : FileName) → Contains files f ↔ (Contains names f × IsLeftOut (index_of content f.base) f.part)

-- the fault of a check, or of a list of files, as a fault of the search for strays
abbrev pub stray_fault : CheckFault → StrayFault
stray_fault (check.Device file) = stray.Device file
stray_fault check.OutOfMemory = stray.OutOfMemory

abbrev pub list_fault : ListFault → StrayFault
list_fault list.Device = stray.List
list_fault list.OutOfMemory = stray.OutOfMemory
