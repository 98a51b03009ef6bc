-- What the last file of a log was closed with.
use Rattle.std.specs.Prelude.{◌≡◌, ◌==◌, ℕ, List, Bool, true, Option, Some, None, if◌then◌else◌}
use Rattle.dl_tool.specs.Words.{Base, Content, Kind, Limits, LogFiles, text_at}
use Rattle.dl_types.specs.declared.file.Part.TheVariants as part
use Rattle.dl_types.specs.declared.head.Head.{Head}
use Rattle.dl_types.specs.declared.head.Mark.{Mark}
use Rattle.dl_types.specs.declared.head.Mark.TheVariants.{Shut}
use Rattle.dl_types.specs.declared.head.Version.{Version}
use Rattle.dl_types.specs.declared.head.Version.TheVariants.{Second}
use Rattle.dl_types.specs.declared.size.Kind.TheVariants.{Halt, Wrap}
use Rattle.dl_types.specs.Frame.{IsHead}
use Rattle.dl_index.specs.declared.entry.Entry.{Entry}
use Rattle.dl_index.specs.Entries.{current_of}
use Rattle.dl_index.specs.IndexText.{IsIndex}
use Rattle.dl_tool.specs.declared.closed.Closed.{Closed}
use Rattle.dl_tool.specs.declared.closed.LastFile.{LastFile}
use Rattle.dl_tool.specs.Named.{index_of}

-- the items that a file with these marks was closed with, of the layout that counts them
abbrev pub counted_by : Version → Mark → ℕ → Option ℕ
counted_by Second Shut count = Some count
counted_by version mark count = None

-- a file with this head has the generation that it has to have, if there is one
abbrev pub is_of : Option ℕ → Head → Bool
is_of None says = true
is_of (Some generation) says = says.generation == generation

-- the items that a file with this head was closed with, if it has that generation
abbrev pub closed_count : Option ℕ → Head → Option ℕ
closed_count generation says = if is_of generation says then counted_by says.version says.mark says.count else None

-- the file of a halt log
abbrev pub halt_last : Base → LastFile
halt_last base = record { file = record { base = base; part = part.Halt }; generation = None }

-- the current file of the index of a wrap log, with its generation
abbrev pub wrap_last : Base → Entry → LastFile
wrap_last base current = record { file = record { base = base; part = part.Numbered current.number }; generation = Some current.generation }

-- a file is the last one of a log
abbrev pub IsLastOf : Kind → Content → Base → LastFile → Type 0
IsLastOf Halt content base last = last ≡ halt_last base
IsLastOf Wrap content base last =
    (text : List ℕ) × (limits : Limits) × (entries : List Entry) × (index_of content base ≡ Some text) × IsIndex text limits entries × (last ≡ wrap_last base (current_of entries))

abbrev pub IsLast : Content → LogFiles → LastFile → Type 0
IsLast content log last = IsLastOf log.kind content log.base last

-- this is the last file of a log, and how many items its head says that it was closed with
pub record IsClosed (content : Content) (log : LogFiles) (closed : Closed) : Type 0 where
  pub last : LastFile
  pub is_last : IsLast content log last
  pub file : closed.file ≡ last.file
  pub says : Head
  pub head : IsHead (text_at content last.file) says
  pub counted : closed_count last.generation says ≡ Some closed.items
