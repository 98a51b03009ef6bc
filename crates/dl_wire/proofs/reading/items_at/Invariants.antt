use Rattle.std.proofs.Common.{◌≡◌, ◌-◌}
use Rattle.dl_wire.specs.Reading.{item_at, many_at}
use Rattle.dl_wire.proofs.Loop.{with_front}
use Rattle.dl_wire.proofs.reading.items_at.Given as goal

abbrev pub invariant-loop : goal.invariant-loop
invariant-loop g l = with_front l.items.items (many_at item_at (l.count - l.counter) l.rest) ≡ many_at item_at l.count l.bytes
