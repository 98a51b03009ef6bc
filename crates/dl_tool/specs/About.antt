-- What is found of a log, one field on a line.
use Rattle.std.specs.Prelude.{◌≡◌, ℕ, List, [], ◌∷◌, ◌++◌, ◌==◌, Option, Some, None, codes, if◌then◌else◌}
use Rattle.dl_tool.specs.Words.{Absent, Amount, base_text, Clean, decimal, Finding, kind_word, LogFiles, printed_file, Refused, Torn, Unread}
use Rattle.dl_types.specs.declared.size.Size.{Size}
use Rattle.dl_types.specs.Printed.{characters_of, refusal_text, size_text}
use Rattle.dl_tool.specs.Line.{whole_word, cut_text}

-- a line: the name of a field, and its text
abbrev pub field : List ℕ → List ℕ → List ℕ
field key text = key ++ codes ": " ++ text ++ 10 ∷ []

-- the log
abbrev pub log_fields : LogFiles → List ℕ
log_fields log = field (codes "name") (characters_of (base_text log.base)) ++ field (codes "kind") (kind_word log.kind)

-- the size that is stored, or that none is
abbrev pub size_field : Option Size → List ℕ
size_field None = field (codes "size") (codes "not stored")
size_field (Some size) = field (codes "size") (size_text size)

-- how much a log has
abbrev pub count_fields : Amount → List ℕ
count_fields a = field (codes "files") (decimal a.files) ++ field (codes "items") (decimal a.items) ++ field (codes "bytes") (decimal a.bytes) ++ field (codes "bad") (decimal a.bad)

-- how many older files have a wrong count, if any has
abbrev pub miscount_field : ℕ → List ℕ
miscount_field n = if n == 0 then [] else field (codes "miscounted") (decimal n)

abbrev pub amount_fields : Amount → List ℕ
amount_fields a = size_field a.stored ++ count_fields a ++ miscount_field a.miscounted

abbrev pub state_field : List ℕ → List ℕ
state_field text = field (codes "state") text

-- what a repair would keep and cut
abbrev pub keeps_text : ℕ → List ℕ
keeps_text kept = codes "needs repair: " ++ decimal kept ++ codes " items kept, "

abbrev pub repair_text : ℕ → ℕ → List ℕ
repair_text kept cut = keeps_text kept ++ cut_text cut

-- the lines of what was found, after those of the log
abbrev pub IsStateText : Finding → List ℕ → Type 0
IsStateText Absent text = text ≡ state_field (codes "no such log")
IsStateText (Clean a) text = text ≡ amount_fields a ++ state_field (whole_word a)
IsStateText (Torn a file kept cut wrong) text = text ≡ amount_fields a ++ state_field (repair_text kept cut)
IsStateText (Refused refusal) text = text ≡ state_field (codes "refused: " ++ refusal_text refusal)
IsStateText (Unread file) text = text ≡ state_field (codes "cannot read " ++ printed_file file)

-- the lines of what was found of a log
abbrev pub IsInfo : LogFiles → Finding → List ℕ → Type 0
IsInfo log found text = (said : List ℕ) × IsStateText found said × (text ≡ log_fields log ++ said)
