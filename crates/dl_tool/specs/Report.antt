-- The report on the logs of a folder.
use Rattle.std.specs.Prelude.{◌≡◌, ◌==◌, ℕ, List, [], ◌∷◌, ◌++◌, ◌&&◌, Bool, true, false, IsTrue, Option}
use Rattle.dl_tool.specs.Words.{Content, DiskState, Files, Finding, LogFiles}
use Rattle.std.specs.List.{list_all, list_any}
use Rattle.std.specs.Io.KnownBytes.{Appends}
use Rattle.dl_log.specs.Reads.{ReadsAs}
use Rattle.dl_tool.specs.declared.finding.Finding.TheVariants as finding
use Rattle.dl_tool.specs.declared.report.Health.{Health}
use Rattle.dl_tool.specs.declared.report.Health.TheVariants.{Clean, Unclean, Unread}
use Rattle.dl_tool.specs.declared.told.Style.{Style}
use Rattle.dl_tool.specs.Finding.{IsFinding}
use Rattle.dl_tool.specs.Told.{IsTold}

-- a log is opened as it is
abbrev pub is_opened : Finding → Bool
is_opened finding.Absent = false
is_opened (finding.Clean a) = true
is_opened (finding.Torn a file kept cut wrong) = false
is_opened (finding.Refused refused) = false
is_opened (finding.Unread file) = false

-- and none of its files has bad bytes or a wrong count
abbrev pub is_clean : Finding → Bool
is_clean finding.Absent = false
is_clean (finding.Clean a) = (a.bad == 0) && (a.miscounted == 0)
is_clean (finding.Torn a file kept cut wrong) = false
is_clean (finding.Refused refused) = false
is_clean (finding.Unread file) = false

-- a log could not be read
abbrev pub is_unread : Finding → Bool
is_unread finding.Absent = false
is_unread (finding.Clean a) = false
is_unread (finding.Torn a file kept cut wrong) = false
is_unread (finding.Refused refused) = false
is_unread (finding.Unread file) = true

-- how logs stand, by whether some could not be read, and whether each is clean
abbrev pub health_by : Bool → Bool → Health
health_by true clean = Unread
health_by false true = Clean
health_by false false = Unclean

abbrev pub health_of : List Finding → Health
health_of found = health_by (list_any is_unread found) (list_all is_clean found)

-- a finding is right for a log, as the disk reads
abbrev pub FindsLog : Type 0 → Content → LogFiles → Finding → Type 0
FindsLog Z content log found = (files : Files) → ReadsAs content log.base log.kind files → IsFinding Z content log.base log.kind files found

-- these findings are right for these logs, one for each
abbrev pub AreFound : Type 0 → Content → List LogFiles → List Finding → Type 0
AreFound Z content [] [] = Unit {0}
AreFound Z content [] (x ∷ xs) = ⊥
AreFound Z content (log ∷ logs) [] = ⊥
AreFound Z content (log ∷ logs) (x ∷ xs) = FindsLog Z content log x × AreFound Z content logs xs

-- the lines of what was found of these logs
abbrev pub AreLines : Style → List LogFiles → List Finding → List ℕ → Type 0
AreLines style [] [] text = text ≡ []
AreLines style [] (x ∷ xs) text = ⊥
AreLines style (log ∷ logs) [] text = ⊥
AreLines style (log ∷ logs) (x ∷ xs) text = (first : List ℕ) × (others : List ℕ) × IsTold style log x first × AreLines style logs xs others × (text ≡ first ++ others)

-- these findings are right for the logs, on an honest disk, and their lines are written
pub record Tells (Z : Type 0) (style : Style) (old new : DiskState) (logs : List LogFiles) (found : List Finding) (written after : Option (List ℕ)) : Type 0 where
  pub finds : IsTrue new.honest → AreFound Z old.content logs found
  pub text : List ℕ
  pub lines : AreLines style logs found text
  pub appends : Appends written after text
