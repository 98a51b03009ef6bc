use Rattle.std.proofs.Common.{◌≡◌, length}
use Rattle.dl_types.specs.declared.file.FileName.{FileName}
use Rattle.dl_disk.specs.Folder.{IsClosed}
use Rattle.dl_disk.proofs.folder.calls.Folder.open_at.Given as goal

abbrev pub invariant-crowded : goal.invariant-crowded
invariant-crowded g l = ((other : FileName) → IsClosed l.fn.self.kept.files.entries other → IsClosed l.self.kept.files.entries other)
    × (l.self ≡ record l.fn.self { kept = l.self.kept })

abbrev pub decreases-crowded : goal.decreases-crowded
decreases-crowded g l = length l.self.kept.files.entries
