-- What is found of a log, as it is reported.
use Rattle.std.specs.Prelude.{ℕ, List}
use Rattle.dl_tool.specs.Words.{Finding, LogFiles}
use Rattle.dl_tool.specs.declared.told.Style.{Style}
use Rattle.dl_tool.specs.declared.told.Style.TheVariants.{Line, Json}
use Rattle.dl_tool.specs.Json.{IsJson}
use Rattle.dl_tool.specs.Line.{IsLine}

-- a line for people, or an object for programs
abbrev pub IsTold : Style → LogFiles → Finding → List ℕ → Type 0
IsTold Line log found line = IsLine log found line
IsTold Json log found line = IsJson log found line
