use Rattle.std.proofs.Common.{◌≡◌, ◌++◌, take}
use Rattle.std.specs.List.{flat_map}
use Rattle.dl_types.specs.Name.{name_text}
use Rattle.dl_wire.specs.Parts.{short_text}
use Rattle.dl_wire.proofs.logs.push_each.Given as goal

abbrev pub invariant-loop-log : goal.invariant-loop-log
invariant-loop-log g l = l.out.items ≡ l.fn.out.items ++ flat_map (λ log. short_text (name_text log)) (take l.log-index l.logs)
