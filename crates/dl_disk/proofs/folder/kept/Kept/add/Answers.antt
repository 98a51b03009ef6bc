use Rattle.lru.proofs.CallerLemmas.{lookup-put_entries}
use Rattle.dl_disk.proofs.Kept.{eq, laws}
use Rattle.dl_disk.proofs.folder.kept.Kept.add.Goals as goal

pub returns-clause-ok : goal.returns-clause-ok
returns-clause-ok c = rw c.in_ok-put.ensures.entries (lookup-put_entries eq c.args.self.now.files c.args.opened.name c.args.opened laws)
