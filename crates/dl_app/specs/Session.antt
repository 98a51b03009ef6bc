-- A script under way, and what may end it while a line is answered.
use Rattle.std.specs.Prelude.{⊤}
use Rattle.dl_types.specs.declared.name.ClientId.{ClientId}
use Rattle.dl_types.specs.declared.name.Name.{Name}
use Rattle.dl_types.specs.declared.place.Place.{Place}
use Rattle.dl_hub.specs.View.{HubView}
use Rattle.dl_app.specs.declared.fault.ScriptFault.{ScriptFault}
use Rattle.dl_app.specs.declared.fault.ScriptFault.TheVariants.{BadLine, Read, Write, OutOfMemory}
use Rattle.dl_app.specs.declared.script.Session.{Session}
use Rattle.dl_app.specs.Places.{place_of}
use Rattle.dl_app.specs.Script.{Stage}

-- where a client goes on reading a log
abbrev pub next_of : {Z : Type 0} → Session Z → ClientId → Name → Place
next_of session client log = place_of session.places client log

-- what the script has come to
abbrev pub stage_of : {D Z : Type 0} → HubView D → Session Z → Stage D
stage_of hub session = record { hub = hub; places = place_of session.places }

-- a fault of answering
abbrev pub IsAnswerFault : ScriptFault → Type 0
IsAnswerFault (BadLine k) = ⊥
IsAnswerFault Read = ⊥
IsAnswerFault Write = ⊤
IsAnswerFault OutOfMemory = ⊤
