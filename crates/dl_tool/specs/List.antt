-- The list of the logs of a folder.
use Rattle.std.specs.Prelude.{◌≡◌, ℕ, List, Option, IsTrue, map as mapped}
use Rattle.dl_tool.specs.Words.{DiskState, LogFiles}
use Rattle.std.specs.Io.KnownBytes.{Appends}
use Rattle.dl_tool.specs.declared.table.Row.{Row}
use Rattle.dl_tool.specs.Report.{AreFound}
use Rattle.dl_tool.specs.Table.{table_text}

-- each log has a row, in their order, with what was found of it on an honest disk, and their table is written
pub record Lists (Z : Type 0) (old new : DiskState) (logs : List LogFiles) (rows : List Row) (written after : Option (List ℕ)) : Type 0 where
  pub logs_are : mapped (λ r. r.log) rows ≡ logs
  pub finds : IsTrue new.honest → AreFound Z old.content logs (mapped (λ r. r.found) rows)
  pub appends : Appends written after (table_text rows)
