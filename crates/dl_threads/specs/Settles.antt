-- What is known of a script that was run with a thread for each client.
use Rattle.std.specs.Prelude.{◌≡◌, ◌↔◌, List, ℕ, Bool, true}
use Rattle.dl_app.specs.declared.command.Command.{Command}
use Rattle.dl_disk.specs.Disk.{DiskState}
use Rattle.dl_server.specs.declared.client.Done.{Done}
use Rattle.dl_settle.specs.Settled.{IsSettled}
use Rattle.dl_trail.specs.Past.{HasLegalHistory}
use Rattle.dl_trail.specs.View.{RecordedView}
use Rattle.dl_threads.specs.Commands.{AreCommands, clients_of}
use Rattle.dl_threads.specs.Parts.{ArePlayed}

-- each client of the lines did its calls in order, a hub has a legal history, and the two were compared: they are settled if and only if they agree
pub record Settles {D : Type 0} (state : D → DiskState) (Z : Type 0) (lines : List (List ℕ)) (settled : Bool) : Type 0 where
  pub commands : List Command
  pub dones : List (Done Z)
  pub hub : RecordedView D Z
  pub given : AreCommands lines commands
  pub played : ArePlayed lines (clients_of commands) dones
  pub legal : hub.kept ≡ true → HasLegalHistory state hub
  pub compared : (settled ≡ true) ↔ ((hub.kept ≡ true) × IsSettled hub.trail dones)
