-- What the last file of a log that needs a repair shows of items that were lost.
use Rattle.std.specs.Prelude.{ℕ, List, [], ◌∷◌, Bool, if◌then◌else◌, ◌==◌, ◌||◌, not, Option, None, Some, length}
use Rattle.dl_tool.specs.Words.{FileName, Finding}
use Rattle.dl_types.specs.declared.head.Head.{Head}
use Rattle.dl_types.specs.Frame.{is_miscounted}
use Rattle.dl_tool.specs.declared.finding.Finding.TheVariants as finding
use Rattle.dl_tool.specs.declared.losses.Losses.{Losses}
use Rattle.dl_tool.specs.Zeros.{ends_in_zeros}

-- the items that a file with so many counts, if it was closed with another number of them
abbrev pub counted_other : Head → ℕ → Option ℕ
counted_other says items = if is_miscounted says items then Some says.count else None

-- what a file with this head and these items shows
abbrev pub losses_of : Head → List (List ℕ) → Losses
losses_of says items = record { items = length items; counted = counted_other says (length items); zeros = ends_in_zeros items }

-- a last file with so many items may show losses: it has items, or is miscounted. A file that was not begun shows none, whatever has its name
abbrev pub may_show : ℕ → Bool → Bool
may_show kept wrong = not (kept == 0) || wrong

-- the last files of the logs that need a repair and may show losses, by what was found of each
abbrev pub torn_file : Finding → List FileName
torn_file finding.Absent = []
torn_file (finding.Clean a) = []
torn_file (finding.Torn a file kept cut wrong) = if may_show kept wrong then file ∷ [] else []
torn_file (finding.Refused refused) = []
torn_file (finding.Unread file) = []
