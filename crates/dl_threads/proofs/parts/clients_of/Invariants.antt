-- The clients so far, and those of the commands that are left, are those of all.
use Rattle.std.proofs.Common.{◌≡◌, drop}
use Rattle.std.specs.Prelude.{fold}
use Rattle.dl_threads.specs.Commands.{client_of, clients_of, with_client}
use Rattle.dl_threads.proofs.parts.clients_of.Given as goal

abbrev pub invariant-loop-command : goal.invariant-loop-command
invariant-loop-command l = fold (λ clients command. with_client clients (client_of command)) l.clients.keys (drop l.command-index l.commands) ≡ clients_of l.commands
