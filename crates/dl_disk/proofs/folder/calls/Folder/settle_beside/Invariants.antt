use Rattle.std.proofs.Common.{◌≡◌}
use Rattle.dl_disk.specs.Owed.{KeepsLost, count_under}
use Rattle.dl_disk.proofs.folder.calls.Folder.settle_beside.Given as goal

abbrev pub invariant-settling : goal.invariant-settling
invariant-settling g l = (l.self ≡ record l.fn.self { kept = l.self.kept; owed = l.self.owed }) × KeepsLost l.fn.self.owed l.self.owed

abbrev pub decreases-settling : goal.decreases-settling
decreases-settling g l = count_under l.self.owed.files l.fn.file.base
