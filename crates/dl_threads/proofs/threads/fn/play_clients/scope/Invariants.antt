-- The threads so far have the parts of the clients before the rest.
use Rattle.std.proofs.Common.{◌≡◌, ◌++◌, drop, map}
use Rattle.std.specs.Prelude.{All}
use Rattle.dl_threads.proofs.Promised.{IsAmong}
use Rattle.dl_threads.proofs.threads.fn.play_clients.scope.Given as goal

abbrev pub invariant-loop-client : goal.invariant-loop-client
invariant-loop-client g l = record {
  owns : map (λ part. part.own) (map (λ handle. handle.promise) l.handles.items) ++ drop l.client-index l.clients ≡ l.clients;
  among : All (IsAmong l.lines.now l.kept) (map (λ handle. handle.promise) l.handles.items);
}
