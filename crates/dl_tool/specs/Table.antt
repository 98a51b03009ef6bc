-- The logs of a folder as a table.
use Rattle.std.specs.Prelude.{ℕ, ◌+◌, ◌-◌, List, [], ◌∷◌, ◌++◌, Option, Some, None, codes, length, max, replicate, fold, sum_by, map as mapped}
use Rattle.dl_tool.specs.Words.{Absent, Amount, base_text, Clean, decimal, Finding, kind_word, Refused, Torn, Unread}
use Rattle.std.specs.List.{flat_map}
use Rattle.dl_types.specs.Add.{capped}
use Rattle.dl_tool.specs.declared.table.Column.{Column}
use Rattle.dl_tool.specs.declared.table.Column.TheVariants.{Name, Kind, Files, Items, Bytes, Bad, State}
use Rattle.dl_tool.specs.declared.table.Entry.{Entry}
use Rattle.dl_tool.specs.declared.table.Entry.TheVariants.{Head, Log, Total}
use Rattle.dl_tool.specs.declared.table.Row.{Row}
use Rattle.dl_tool.specs.declared.table.Widths.{Widths}
use Rattle.dl_tool.specs.Line.{whole_word}

-- how much a log has, if that is known
abbrev pub amount_in : Finding → Option Amount
amount_in Absent = None
amount_in (Clean a) = Some a
amount_in (Torn a file kept cut wrong) = Some a
amount_in (Refused refused) = None
amount_in (Unread file) = None

-- how much a log adds to a total
abbrev pub share_of : Option Amount → Amount
share_of None = record { files = 0; items = 0; bytes = 0; bad = 0; miscounted = 0; stored = None }
share_of (Some a) = a

-- how much there is with one log more
abbrev pub total_with : Amount → Amount → Amount
total_with t a = record { files = capped (t.files + a.files); items = capped (t.items + a.items); bytes = capped (t.bytes + a.bytes); bad = capped (t.bad + a.bad); miscounted = capped (t.miscounted + a.miscounted); stored = t.stored }

-- the sum of a number over these logs
abbrev pub sum_over : (Amount → ℕ) → List Row → ℕ
sum_over part rows = capped (sum_by (λ r. part (share_of (amount_in r.found))) rows)

abbrev pub total_of : List Row → Amount
total_of rows = record { files = sum_over (λ a. a.files) rows; items = sum_over (λ a. a.items) rows; bytes = sum_over (λ a. a.bytes) rows; bad = sum_over (λ a. a.bad) rows; miscounted = sum_over (λ a. a.miscounted) rows; stored = None }

-- ---- the cells
abbrev pub state_word : Finding → List ℕ
state_word Absent = codes "no such log"
state_word (Clean a) = whole_word a
state_word (Torn a file kept cut wrong) = codes "needs repair"
state_word (Refused refused) = codes "refused"
state_word (Unread file) = codes "unread"

abbrev pub head_cell : Column → List ℕ
head_cell Name = codes "name"
head_cell Kind = codes "kind"
head_cell Files = codes "files"
head_cell Items = codes "items"
head_cell Bytes = codes "bytes"
head_cell Bad = codes "bad"
head_cell State = codes "state"

-- the columns that are no number are empty
abbrev pub amount_cell : Column → Amount → List ℕ
amount_cell Name a = []
amount_cell Kind a = []
amount_cell Files a = decimal a.files
amount_cell Items a = decimal a.items
amount_cell Bytes a = decimal a.bytes
amount_cell Bad a = decimal a.bad
amount_cell State a = []

abbrev pub total_cell : Column → Amount → List ℕ
total_cell Name a = codes "total"
total_cell Kind a = []
total_cell Files a = decimal a.files
total_cell Items a = decimal a.items
total_cell Bytes a = decimal a.bytes
total_cell Bad a = decimal a.bad
total_cell State a = []

abbrev pub known_cell : Column → Option Amount → List ℕ
known_cell column None = codes "-"
known_cell column (Some a) = amount_cell column a

abbrev pub log_cell : Column → Row → List ℕ
log_cell Name row = base_text row.log.base
log_cell Kind row = kind_word row.log.kind
log_cell Files row = known_cell Files (amount_in row.found)
log_cell Items row = known_cell Items (amount_in row.found)
log_cell Bytes row = known_cell Bytes (amount_in row.found)
log_cell Bad row = known_cell Bad (amount_in row.found)
log_cell State row = state_word row.found

abbrev pub cell : Column → Entry → List ℕ
cell column Head = head_cell column
cell column (Log row) = log_cell column row
cell column (Total a) = total_cell column a

-- ---- the columns
-- the length of the longest cell
abbrev pub width_of : Column → List Entry → ℕ
width_of column entries = fold (λ w e. max w (length (cell column e))) 0 entries

abbrev pub widths_of : List Entry → Widths
widths_of entries = record { name = width_of Name entries; kind = width_of Kind entries; files = width_of Files entries; items = width_of Items entries; bytes = width_of Bytes entries; bad = width_of Bad entries }

-- a text with blanks before it, or after it, up to a width
abbrev pub padded_left : ℕ → List ℕ → List ℕ
padded_left width text = replicate (width - length text) 32 ++ text

abbrev pub padded_right : ℕ → List ℕ → List ℕ
padded_right width text = text ++ replicate (width - length text) 32

-- what separates two columns
abbrev pub gap : List ℕ
gap = 32 ∷ 32 ∷ []

abbrev pub left_cell : Column → ℕ → Entry → List ℕ
left_cell column width e = padded_right width (cell column e)

abbrev pub right_cell : Column → ℕ → Entry → List ℕ
right_cell column width e = gap ++ padded_left width (cell column e)

-- the last cell of a line, after a gap, or nothing if it is empty
abbrev pub last_text : List ℕ → List ℕ
last_text [] = []
last_text (c ∷ cs) = gap ++ (c ∷ cs)

-- ---- the lines
abbrev pub names_text : Widths → Entry → List ℕ
names_text w e = left_cell Name w.name e ++ gap ++ left_cell Kind w.kind e

abbrev pub counts_text : Widths → Entry → List ℕ
counts_text w e = right_cell Files w.files e ++ right_cell Items w.items e ++ right_cell Bytes w.bytes e ++ right_cell Bad w.bad e

abbrev pub entry_line : Widths → Entry → List ℕ
entry_line w e = names_text w e ++ counts_text w e ++ last_text (cell State e) ++ 10 ∷ []

-- a head, a line a log, and their sums
abbrev pub entries_of : List Row → List Entry
entries_of rows = Head ∷ mapped (λ r. Log r) rows ++ Total (total_of rows) ∷ []

abbrev pub lines_of : Widths → List Entry → List ℕ
lines_of w entries = flat_map (entry_line w) entries

abbrev pub table_text : List Row → List ℕ
table_text rows = let entries = entries_of rows in lines_of (widths_of entries) entries
