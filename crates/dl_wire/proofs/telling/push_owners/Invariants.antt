use Rattle.std.proofs.Common.{◌≡◌, ◌++◌, length, take}
use Rattle.std.specs.List.{flat_map}
use Rattle.dl_wire.specs.Parts.{u32_text}
use Rattle.dl_wire.specs.Answer.{owner_text}
use Rattle.dl_wire.proofs.telling.push_owners.Given as goal

abbrev pub invariant-loop-owner : goal.invariant-loop-owner
invariant-loop-owner g l = l.out.items ≡ l.fn.out.items ++ (u32_text (length l.owners) ++ flat_map owner_text (take l.owner-index l.owners))
