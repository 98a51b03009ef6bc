-- What is found of a log, as a JSON object on a line of its own. No name, file or refusal has a byte that JSON escapes: bases are letters, digits, `_` and `-`.
use Rattle.std.specs.Prelude.{◌≡◌, ℕ, List, [], ◌∷◌, ◌++◌, ◌==◌, Option, Some, None, codes, if◌then◌else◌}
use Rattle.dl_tool.specs.Words.{Absent, Amount, base_text, Clean, decimal, Finding, kind_word, LogFiles, printed_file, Refused, Torn, Unread}
use Rattle.dl_types.specs.declared.size.Size.{Size}
use Rattle.dl_types.specs.Printed.{characters_of, refusal_text, size_text}
use Rattle.dl_tool.specs.Line.{whole_word}

-- the front of an object: the log
abbrev pub json_log : LogFiles → List ℕ
json_log log = codes "{\"name\":\"" ++ characters_of (base_text log.base) ++ codes "\",\"kind\":\"" ++ kind_word log.kind ++ codes "\""

-- the size that is stored, if there is one
abbrev pub json_size : Option Size → List ℕ
json_size None = []
json_size (Some size) = codes ",\"size\":\"" ++ size_text size ++ codes "\""

-- the state of a log
abbrev pub json_state : List ℕ → List ℕ
json_state state = codes ",\"state\":\"" ++ state ++ codes "\""

-- how much a log has
abbrev pub json_counts : Amount → List ℕ
json_counts a = codes ",\"files\":" ++ decimal a.files ++ codes ",\"items\":" ++ decimal a.items ++ codes ",\"bytes\":" ++ decimal a.bytes ++ codes ",\"bad\":" ++ decimal a.bad

-- how many older files have a wrong count, if any has
abbrev pub json_miscount : ℕ → List ℕ
json_miscount n = if n == 0 then [] else codes ",\"miscounted\":" ++ decimal n

-- a log in this state that has so much
abbrev pub json_amount : List ℕ → Amount → List ℕ
json_amount state a = json_size a.stored ++ json_state state ++ json_counts a ++ json_miscount a.miscounted

-- what a repair would do
abbrev pub json_repair : ℕ → ℕ → List ℕ
json_repair kept cut = codes ",\"kept\":" ++ decimal kept ++ codes ",\"cut\":" ++ decimal cut

-- the text of a field, the last of an object
abbrev pub json_field : List ℕ → List ℕ → List ℕ
json_field key text = codes ",\"" ++ key ++ codes "\":\"" ++ text ++ codes "\""

-- the fields of what was found, after those of the log
abbrev pub IsJsonText : Finding → List ℕ → Type 0
IsJsonText Absent text = text ≡ json_state (codes "no such log")
IsJsonText (Clean a) text = text ≡ json_amount (whole_word a) a
IsJsonText (Torn a file kept cut wrong) text = text ≡ json_amount (codes "needs repair") a ++ json_repair kept cut
IsJsonText (Refused refusal) text = text ≡ json_state (codes "refused") ++ json_field (codes "why") (refusal_text refusal)
IsJsonText (Unread file) text = text ≡ json_state (codes "unread") ++ json_field (codes "file") (printed_file file)

-- the end of an object, and of its line
abbrev pub json_end : List ℕ
json_end = codes "}" ++ 10 ∷ []

-- the object of what was found of a log
abbrev pub IsJson : LogFiles → Finding → List ℕ → Type 0
IsJson log found line = (said : List ℕ) × IsJsonText found said × (line ≡ json_log log ++ said ++ json_end)
