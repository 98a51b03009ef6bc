use Rattle.std.proofs.Common.{◌≡◌, take, filter}
use Rattle.dl_types.specs.Name.{same_base}
use Rattle.dl_tool.proofs.begin.of_base.Given as goal

abbrev pub invariant-loop-name : goal.invariant-loop-name
invariant-loop-name g l = l.files.items ≡ filter (λ f. same_base f.base l.base) (take l.name-index l.names)
