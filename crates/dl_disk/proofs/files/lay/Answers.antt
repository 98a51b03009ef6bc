use Rattle.dl_disk.proofs.Maps.{content_put}
use Rattle.dl_disk.proofs.files.lay.Goals as goal

pub returns-clause-ok : goal.returns-clause-ok
returns-clause-ok g c = content_put c.args.files.now.entries c.insert.new.self.entries c.args.file c.args.bytes c.in_ok-insert.ensures.updates.0
