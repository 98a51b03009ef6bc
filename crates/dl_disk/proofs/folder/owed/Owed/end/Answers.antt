use Rattle.std.proofs.Common.{◌≡◌, true, sym, ◌∙◌}
use Rattle.indexmap.specs.IndexSet.{contains}
use Rattle.dl_disk.proofs.Owed.{eq}
use Rattle.dl_disk.proofs.Losses.{lost_apart, same_named}
use Rattle.dl_disk.proofs.folder.owed.Owed.end.Goals as goal

pub returns-then-contains-clause-lost : goal.returns-then-contains-clause-lost
returns-then-contains-clause-lost c other is =
    let running : contains eq c.args.self.now.running c.args.file ≡ true = sym c.swap_remove.ensures.found ∙ c.if-not-swap_remove.false in
    rw c.settle.ensures.rest (lost_apart (eq c.args.file other) _ _ _ _ (same_named (contains eq c.args.self.now.running) c.args.file other running)
    (c.swap_remove-2.ensures.updates.0 other) (c.swap_remove.ensures.updates.0 other) is)

pub returns-else-contains-clause-lost : goal.returns-else-contains-clause-lost
returns-else-contains-clause-lost c other is =
    let running : contains eq c.args.self.now.running c.args.file ≡ true = sym c.swap_remove.ensures.found ∙ c.if-not-swap_remove.false in
    lost_apart (eq c.args.file other) _ _ _ _ (same_named (contains eq c.args.self.now.running) c.args.file other running)
    (c.swap_remove-2.ensures.updates.0 other) (c.swap_remove.ensures.updates.0 other) is
