use Rattle.std.proofs.Common.{◌≡◌, take, filter}
use Rattle.dl_types.specs.Name.{same_base}
use Rattle.dl_tool.proofs.folder.logs_named.Given as goal

abbrev pub invariant-loop-log : goal.invariant-loop-log
invariant-loop-log g l = l.own.items ≡ filter (λ log. same_base log.base l.base) (take l.log-index l.logs)
