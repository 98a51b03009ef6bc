use Rattle.std.proofs.Common.{true}
use Rattle.indexmap.specs.IndexSet.{Updates}
use Rattle.dl_disk.proofs.Owed.{eq}
use Rattle.dl_disk.proofs.Losses.{lost_with, held}
use Rattle.dl_disk.proofs.folder.owed.Owed.lose.Goals as goal

pub returns-clause-others : goal.returns-clause-others
returns-clause-others c other is =
    let added : Updates eq c.args.self.now.doubtful c.insert.new.self c.args.file true = held c.insert.result _ (c.insert.ensures.succeeds c.requires) c.insert.ensures.updates in
    lost_with (eq c.args.file other) _ _ _ _ (added.0 other) (c.swap_remove.ensures.updates.0 other) is
