-- Which logs a folder has.
use Rattle.std.specs.Prelude.{◌↔◌, Option, Some, None, IsSome, Contains, List, [], ◌∷◌, filter}
use Rattle.dl_tool.specs.Words.{Base, Content, FileName, Kind, LogFiles}
use Rattle.std.specs.FinMap as map
use Rattle.dl_types.specs.declared.file.Part.{Part}
use Rattle.dl_types.specs.declared.file.Part.TheVariants as part
use Rattle.dl_types.specs.declared.size.Kind.TheVariants.{Halt, Wrap}
use Rattle.dl_types.specs.Name.{same_base}

-- the part of the main file of a log of this kind: the log is there if this file is
abbrev pub main_part : Kind → Part
main_part Halt = part.Halt
main_part Wrap = part.Index

-- the main file of a log
abbrev pub main_file : LogFiles → FileName
main_file log = record { base = log.base; part = main_part log.kind }

-- the log whose main file has this base and this part, if it is a main file
abbrev pub log_with : Base → Part → Option LogFiles
log_with base part.Halt = Some (record { base = base; kind = Halt })
log_with base part.Index = Some (record { base = base; kind = Wrap })
log_with base (part.Numbered n) = None

abbrev pub log_of : FileName → Option LogFiles
log_of f = log_with f.base f.part

-- these are the logs whose main file is there
abbrev pub AreLogs : Content → List LogFiles → Type 0
AreLogs content logs = (log : LogFiles) → Contains logs log ↔ IsSome (map.get content (main_file log))

-- the logs of a base, or a halt log of it if there are none
abbrev pub or_halt : Base → List LogFiles → List LogFiles
or_halt base [] = record { base = base; kind = Halt } ∷ []
or_halt base (log ∷ logs) = log ∷ logs

abbrev pub named_in : Base → List LogFiles → List LogFiles
named_in base logs = or_halt base (filter (λ log. same_base log.base base) logs)
