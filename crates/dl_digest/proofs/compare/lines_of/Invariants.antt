use Rattle.std.proofs.Common.{◌≡◌, take}
use Rattle.std.specs.List.{filter}
use Rattle.dl_types.specs.Name.{same_name}
use Rattle.dl_digest.proofs.compare.lines_of.Given as goal

-- those of the lines so far
abbrev pub invariant-loop-line : goal.invariant-loop-line
invariant-loop-line g l = l.own.items ≡ filter (λ line. same_name line.log l.log) (take l.line-index l.lines)
