use Rattle.std.proofs.Common.{length, ◌-◌}
use Rattle.lru.proofs.CallerLemmas.{Contains-take}
use Rattle.dl_disk.proofs.Kept.{closed_within}
use Rattle.dl_disk.proofs.folder.kept.Kept.close_oldest.Goals as goal

pub returns-clause-others : goal.returns-clause-others
returns-clause-others c other none =
    let es = c.args.self.now.files.entries in
    rw c.pop_lru.ensures.entries (closed_within other es _ (Contains-take (length es - 1) es) none)
