use Rattle.std.proofs.Common.{subst, refl, IsSome}
use Rattle.indexmap.specs.IndexMap.{get}
use Rattle.dl_types.specs.Name.{same_base}
use Rattle.dl_disk.proofs.Owed.{stays_unknown}
use Rattle.dl_disk.proofs.folder.by_base.FilesByBase.remove.Goals as goal

pub returns-else-is_empty-clause-others : goal.returns-else-is_empty-clause-others
returns-else-is_empty-clause-others c other unknown =
    let put = (c.get_mut.follows.holds c.swap_remove.new.self).3 (subst IsSome c.in-Some.ensures.value refl) in
    stays_unknown c.args.file other (get same_base c.args.self.now.bases) (get same_base (c.get_mut.follows.lender c.swap_remove.new.self)) c.in-Some.files.now c.swap_remove.new.self
    c.in-Some.ensures.value put.0 c.swap_remove.ensures.updates.0 unknown
