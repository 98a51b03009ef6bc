-- What is found of files beside their logs, as it is reported: a line for people, or an object for programs.
use Rattle.std.specs.Prelude.{ℕ, List, [], ◌++◌, Bool, true, false, Option, None, Some, codes, if◌then◌else◌}
use Rattle.dl_tool.specs.Words.{decimal, FileName, printed_file}
use Rattle.dl_tool.specs.declared.losses.Losses.{Losses}
use Rattle.dl_tool.specs.declared.told.Style.{Style}
use Rattle.dl_tool.specs.declared.told.Style.TheVariants.{Line, Json}

-- the front of the object of a file in a state
abbrev pub json_file : FileName → List ℕ → List ℕ
json_file file state = codes "{\"file\":\"" ++ printed_file file ++ codes "\",\"state\":\"" ++ state ++ codes "\""

-- a stray file, which may be newer than the index of its base
abbrev pub stray_text : Style → FileName → Bool → List ℕ
stray_text Line file false = printed_file file ++ codes " stray: no index names it\n"
stray_text Line file true = printed_file file ++ codes " stray: no index names it, and it is newer than the files of its index\n"
stray_text Json file false = json_file file (codes "stray") ++ codes "}\n"
stray_text Json file true = json_file file (codes "stray") ++ codes ",\"newer\":true}\n"

-- the front of the line of a file in a state
abbrev pub front_text : FileName → List ℕ → List ℕ
front_text file state = printed_file file ++ codes " " ++ state ++ codes ": "

-- with how many items a file was closed, and how many it has
abbrev pub closed_text : ℕ → ℕ → List ℕ
closed_text counted items = codes "it was closed with " ++ decimal counted ++ codes " items and has " ++ decimal items ++ codes "\n"

-- a file that was closed with another number of items than it has
abbrev pub count_text : Style → FileName → ℕ → ℕ → List ℕ
count_text Line file counted items = front_text file (codes "miscounted") ++ closed_text counted items
count_text Json file counted items = json_file file (codes "miscounted") ++ codes ",\"counted\":" ++ decimal counted ++ codes ",\"items\":" ++ decimal items ++ codes "}\n"

-- a file whose last item has no byte but zeros
abbrev pub zeros_text : Style → FileName → List ℕ
zeros_text Line file = printed_file file ++ codes " zeros: its last item has no byte but zeros\n"
zeros_text Json file = json_file file (codes "zeros") ++ codes "}\n"

-- the line of a count, if a file has one
abbrev pub counts_text : Style → FileName → Option ℕ → ℕ → List ℕ
counts_text style file None items = []
counts_text style file (Some counted) items = count_text style file counted items

-- what a file shows of items that were lost
abbrev pub losses_text : Style → FileName → Losses → List ℕ
losses_text style file losses = counts_text style file losses.counted losses.items ++ (if losses.zeros then zeros_text style file else [])
