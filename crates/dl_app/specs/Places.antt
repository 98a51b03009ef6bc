-- Where each client goes on reading.
use Rattle.std.specs.Prelude.{Option, Some, None, Bool, ◌&&◌, if◌then◌else◌}
use Rattle.indexmap.specs.IndexMap.{get}
use Rattle.dl_types.specs.Name.{same_client, same_name}
use Rattle.dl_types.specs.declared.name.ClientId.{ClientId}
use Rattle.dl_types.specs.declared.name.Name.{Name}
use Rattle.dl_types.specs.declared.place.Continuation.{Continuation}
use Rattle.dl_types.specs.declared.place.Place.{Place}
use Rattle.dl_types.specs.declared.place.Place.TheVariants.{Start, At}
use Rattle.dl_types.specs.declared.reply.Reply.{Reply}
use Rattle.dl_types.specs.declared.reply.Reply.TheVariants as reply
use Rattle.dl_app.specs.declared.places.Places.{Places}
use Rattle.dl_app.specs.declared.places.Reader.{Reader}

abbrev pub same_reader : Reader → Reader → Bool
same_reader a b = same_client a.client b.client && same_name a.log b.log

-- the place that was given, or the start if there is none
abbrev pub start_or : Option Continuation → Place
start_or None = Start
start_or (Some place) = At place

-- where a client goes on in a log
abbrev pub place_of : {Z : Type 0} → Places Z → ClientId → Name → Place
place_of places client log = start_or (get same_reader places.given (record { client = client; log = log }))

-- where clients go on after one of them was given a place
abbrev pub given_place : Continuation → ClientId → Name → (ClientId → Name → Place) → ClientId → Name → Place
given_place next client log places = λ c l. if same_client client c && same_name log l then At next else places c l

-- where clients go on after a reply to one of them: at the place after its items, or at the place that a step led to
abbrev pub places_after : {Z : Type 0} → Reply Z → ClientId → Name → (ClientId → Name → Place) → ClientId → Name → Place
places_after reply.Opened client log places = places
places_after (reply.Repaired recovered bad) client log places = places
places_after reply.Done client log places = places
places_after reply.Suspended client log places = places
places_after reply.Held client log places = places
places_after (reply.Items next items bad) client log places = given_place next client log places
places_after reply.Eof client log places = places
places_after (reply.At next) client log places = given_place next client log places
places_after (reply.Info info) client log places = places
places_after (reply.Turn turn) client log places = places
places_after (reply.Refused refusal) client log places = places
places_after reply.OutOfMemory client log places = places
