-- What a client did by its calls.
use Rattle.std.specs.Prelude.{◌≡◌, ◌≢◌, ℕ, List, [], ◌∷◌, ◌++◌, Option, Some, None}
use Rattle.dl_types.specs.declared.name.ClientId.{ClientId}
use Rattle.dl_types.specs.declared.name.Name.{Name}
use Rattle.dl_types.specs.declared.place.Place.{Place}
use Rattle.dl_types.specs.declared.place.Place.TheVariants.{Start}
use Rattle.dl_types.specs.declared.call.Call.{Call as Asked}
use Rattle.dl_types.specs.declared.call.Call.TheVariants as call
use Rattle.dl_types.specs.declared.event.Event.TheVariants as event
use Rattle.dl_types.specs.declared.refusal.Refusal.{Refusal}
use Rattle.dl_types.specs.declared.reply.Reply.{Reply}
use Rattle.dl_types.specs.declared.reply.Reply.TheVariants.{OutOfMemory}
use Rattle.dl_server.specs.declared.client.Did.{Did}
use Rattle.dl_server.specs.declared.client.Did.TheVariants.{Sent}
use Rattle.dl_server.specs.declared.client.Done.{Done}
use Rattle.dl_server.specs.Calls.{Adds, exited}
use Rattle.dl_server.specs.Client.{ClientView}
use Rattle.dl_app.specs.declared.command.Command.{Command}
use Rattle.dl_app.specs.declared.command.Request.{Request}
use Rattle.dl_app.specs.Command.{call_in, refusal_in}
use Rattle.dl_app.specs.Places.{places_after}
use Rattle.dl_threads.specs.Commands.{Asking, calls_of}

module _ {A : Type 0} where
  -- a client of the server is the one that it was
  pub record IsSame (before after : ClientView A) : Type 0 where
    pub id : after.id ≡ before.id
    pub kept : after.kept ≡ before.kept

  -- it did this after what it had done
  abbrev pub GoesOn : ClientView A → List (Did A) → ClientView A → Type 0
  GoesOn before did after = after.did ≡ before.did ++ did

  -- what a client did by a call, and where it goes on then: items are sent, and any other call has its reply, for which there was memory, after the
  -- tries that were suspended
  abbrev pub MakesCall : ClientId → Name → Asked A → (ClientId → Name → Place) → List (Did A) → (ClientId → Name → Place) → Type 0
  MakesCall id log (call.Alog items) before did after = (did ≡ Sent log items ∷ []) × (after ≡ before)
  MakesCall id log other before did after = (r : Reply A) × (r ≢ OutOfMemory) × Adds [] (event.Call id log other) r did × (after ≡ places_after r id log before)

  -- the same of what a line asks for; by one that is refused before it is a call nothing is done
  abbrev pub MakesUnless : Option Refusal → ClientId → Name → Asked A → (ClientId → Name → Place) → List (Did A) → (ClientId → Name → Place) → Type 0
  MakesUnless (Some refusal) id log asked before did after = (did ≡ []) × (after ≡ before)
  MakesUnless None id log asked before did after = MakesCall id log asked before did after

  abbrev pub Makes : ClientId → Name → Request → (ClientId → Name → Place) → List (Did A) → (ClientId → Name → Place) → Type 0
  Makes id log request before did after = MakesUnless (refusal_in request) id log (call_in request (before id log)) before did after

  -- what a client did by calls, one after another
  abbrev pub MakesAll : ClientId → List Asking → (ClientId → Name → Place) → List (Did A) → Type 0
  MakesAll id [] before did = did ≡ []
  MakesAll id (asking ∷ others) before did =
      (first : List (Did A)) × (mid : ClientId → Name → Place) × (later : List (Did A))
      × Makes id asking.log asking.request before first mid × MakesAll id others mid later × (did ≡ first ++ later)

  -- what a client of the server did: the calls of a client of the script in order, and then its exit
  abbrev pub Plays : ClientId → List Command → Done A → Type 0
  Plays own commands done = (did : List (Did A)) × MakesAll done.id (calls_of own commands) (λ c l. Start) did × (done.did.items ≡ exited did done.id)
