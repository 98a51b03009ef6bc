use Rattle.lru.proofs.CallerLemmas.{Contains-remove_entry}
use Rattle.dl_disk.proofs.Kept.{eq, closed_removed, closed_within}
use Rattle.dl_disk.proofs.folder.kept.Kept.close.Goals as goal

pub returns-then-len-gt0-clause-closed : goal.returns-then-len-gt0-clause-closed
returns-then-len-gt0-clause-closed c = rw c.pop.ensures.entries (closed_removed c.args.name c.args.self.now.files.entries c.len.ensures.valid.0)

pub returns-then-len-gt0-clause-others : goal.returns-then-len-gt0-clause-others
returns-then-len-gt0-clause-others c other none =
    rw c.pop.ensures.entries (closed_within other c.args.self.now.files.entries _ (Contains-remove_entry (eq c.args.name) c.args.self.now.files.entries) none)
