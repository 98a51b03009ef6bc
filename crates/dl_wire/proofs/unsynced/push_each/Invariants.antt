use Rattle.std.proofs.Common.{◌≡◌, ◌++◌, take}
use Rattle.std.specs.List.{flat_map}
use Rattle.dl_wire.specs.Unsynced.{unsynced_text}
use Rattle.dl_wire.proofs.unsynced.push_each.Given as goal

abbrev pub invariant-loop-one : goal.invariant-loop-one
invariant-loop-one g l = l.out.items ≡ l.fn.out.items ++ flat_map unsynced_text (take l.one-index l.unsynced)
