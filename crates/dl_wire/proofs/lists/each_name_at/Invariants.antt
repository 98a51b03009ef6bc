use Rattle.std.proofs.Common.{◌≡◌, ◌-◌}
use Rattle.dl_wire.specs.Reading.{name_at, many_at}
use Rattle.dl_wire.proofs.Loop.{with_front}
use Rattle.dl_wire.proofs.lists.each_name_at.Given as goal

abbrev pub invariant-loop : goal.invariant-loop
invariant-loop g l = with_front l.names.items (many_at name_at (l.count - l.counter) l.rest) ≡ many_at name_at l.count l.bytes
