-- What each base has once the count after the borrow is written.
use Rattle.std.proofs.Common.{rules, Some, refl}
use Rattle.indexmap.specs.IndexMap.{get}
use Rattle.dl_types.specs.Name.{same_base}
use Rattle.dl_disk.proofs.FaultCounts.{count_kept, still_known}
use Rattle.dl_disk.proofs.counts.counted.Goals as goal

pub returns-in-Some-clause-counts : goal.returns-in-Some-clause-counts
returns-in-Some-clause-counts g c =
    let written = (c.get_mut.follows.holds c.saturating_add.result).3 c.requires in
    record {
      later = search rules;
      fault = λ _. search rules;
      calm = λ ok. search rules;
      others = count_kept (get same_base c.args.counts.now) (get same_base (c.get_mut.follows.lender c.saturating_add.result)) c.args.base (Some c.saturating_add.result) written.0;
    }

pub returns-in-Some-clause-known : goal.returns-in-Some-clause-known
returns-in-Some-clause-known g c =
    let written = (c.get_mut.follows.holds c.saturating_add.result).3 c.requires in
    still_known (get same_base c.args.counts.now) (get same_base (c.get_mut.follows.lender c.saturating_add.result)) c.args.base (Some c.saturating_add.result) written.0 refl
