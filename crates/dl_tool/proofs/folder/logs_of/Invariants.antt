use Rattle.std.proofs.Common.{◌≡◌, take}
use Rattle.std.specs.List.{filter_map}
use Rattle.dl_tool.specs.Folder.{log_of}
use Rattle.dl_tool.proofs.folder.logs_of.Given as goal

abbrev pub invariant-loop-name : goal.invariant-loop-name
invariant-loop-name g l = l.logs.items ≡ filter_map log_of (take l.name-index l.names)
