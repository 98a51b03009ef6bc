-- What is found of a log, as a line.
use Rattle.std.specs.Prelude.{◌≡◌, ◌==◌, ℕ, List, [], ◌∷◌, ◌++◌, codes, if◌then◌else◌}
use Rattle.dl_tool.specs.Words.{Absent, Amount, base_text, Clean, decimal, Finding, kind_word, LogFiles, printed_file, Refused, Torn, Unread}
use Rattle.dl_types.specs.Printed.{characters_of, refusal_text}

-- a log, and a space
abbrev pub log_text : LogFiles → List ℕ
log_text log = characters_of (base_text log.base) ++ codes " " ++ kind_word log.kind ++ codes " "

-- how much a log has
abbrev pub counts_text : Amount → List ℕ
counts_text a = codes "files=" ++ decimal a.files ++ codes " items=" ++ decimal a.items ++ codes " bytes=" ++ decimal a.bytes ++ codes " bad=" ++ decimal a.bad

-- how many older files have a wrong count, if any has
abbrev pub miscount_text : ℕ → List ℕ
miscount_text n = if n == 0 then [] else codes " miscounted=" ++ decimal n

abbrev pub amount_text : Amount → List ℕ
amount_text a = counts_text a ++ miscount_text a.miscounted

-- the word of a log that is opened as it is, by its bad bytes and its wrong counts: those of older files stay
abbrev pub whole_word : Amount → List ℕ
whole_word a = if a.bad == 0 then if a.miscounted == 0 then codes "clean" else codes "miscounted" else codes "damaged"

-- how many items a repair would keep
abbrev pub kept_text : ℕ → List ℕ
kept_text kept = codes " needs repair: " ++ decimal kept ++ codes " items kept, "

-- how many bytes it would cut
abbrev pub cut_text : ℕ → List ℕ
cut_text cut = decimal cut ++ codes " bytes bad"

-- a text says what was found
abbrev pub IsFindingText : Finding → List ℕ → Type 0
IsFindingText Absent text = text ≡ codes "no such log"
IsFindingText (Clean a) text = text ≡ amount_text a ++ codes " " ++ whole_word a
IsFindingText (Torn a file kept cut wrong) text = text ≡ amount_text a ++ kept_text kept ++ cut_text cut
IsFindingText (Refused refusal) text = text ≡ codes "refused: " ++ refusal_text refusal
IsFindingText (Unread file) text = text ≡ codes "cannot read " ++ printed_file file

-- the line of what was found of a log
abbrev pub IsLine : LogFiles → Finding → List ℕ → Type 0
IsLine log found line = (said : List ℕ) × IsFindingText found said × (line ≡ log_text log ++ said ++ 10 ∷ [])
