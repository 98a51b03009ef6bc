-- Nothing was sent yet.
use Rattle.std.proofs.Common.{◌≡◌}
use Rattle.dl_threads.proofs.client.send.Given as goal

abbrev pub invariant-loop : goal.invariant-loop
invariant-loop g l = record {
  can_next : (goal.iterator-loop g).can_next l.iterator';
  is_finite : (goal.iterator-loop g).is_finite l.iterator';
  client : l.client ≡ l.fn.client;
  items : l.items ≡ l.fn.items;
}
