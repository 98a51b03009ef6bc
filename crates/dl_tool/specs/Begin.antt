-- Files that are in the way of a log that is to be begun.
use Rattle.std.specs.Prelude.{◌≡◌, ◌↔◌, List, IsSome, None, Contains}
use Rattle.dl_tool.specs.Words.{Content, FileName, LogFiles}
use Rattle.std.specs.FinMap as map
use Rattle.dl_tool.specs.Folder.{main_file}

-- the log is not there, and this file of its base is
pub record IsInWay (content : Content) (log : LogFiles) (f : FileName) : Type 0 where
  pub begun : map.get content (main_file log) ≡ None
  pub named : f.base ≡ log.base
  pub there : IsSome (map.get content f)

-- these are all of them
abbrev pub AreInWay : Content → LogFiles → List FileName → Type 0
AreInWay content log files = (f : FileName) → Contains files f ↔ IsInWay content log f
