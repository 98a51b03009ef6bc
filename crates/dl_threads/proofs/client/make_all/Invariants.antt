-- The calls before the rest were made, and nothing else of the client has changed.
use Rattle.std.proofs.Common.{◌≡◌, true, List, drop}
use Rattle.dl_types.specs.declared.place.Place.TheVariants.{Start}
use Rattle.dl_server.specs.declared.client.Did.{Did}
use Rattle.dl_app.specs.Places.{place_of}
use Rattle.dl_threads.specs.Commands.{calls_of}
use Rattle.dl_threads.specs.Played.{IsSame, GoesOn}
use Rattle.dl_threads.proofs.Played.{GoesOnBy}
use Rattle.dl_threads.proofs.client.make_all.Given as goal

abbrev pub invariant-loop-command : goal.invariant-loop-command
invariant-loop-command g l = record {
  same : IsSame l.fn.client l.client;
  made : l.fn.client.kept ≡ true → (did : List (Did _)) × GoesOn l.fn.client did l.client
      × GoesOnBy l.fn.client.id (calls_of l.own l.commands) (λ c l. Start) did (calls_of l.own (drop l.command-index l.commands)) (place_of l.places);
}
