-- In which order texts are served that came together: syncs wait for what came with them, and are served together.
use Rattle.std.specs.Prelude.{ℕ, List, [], ◌∷◌, ◌++◌, All, Bool, true, Option, Some, None, Result, Ok, Err, map, if◌then◌else◌}
use Rattle.dl_types.specs.declared.call.Act.TheVariants as act
use Rattle.dl_types.specs.declared.call.Call.TheVariants as call
use Rattle.dl_types.specs.declared.event.Event.{Event}
use Rattle.dl_types.specs.declared.event.Event.TheVariants as event
use Rattle.dl_types.specs.declared.name.ClientId.{ClientId}
use Rattle.dl_types.specs.Name.{is_among}
use Rattle.dl_wire.specs.declared.request.Ask.{Ask}
use Rattle.dl_wire.specs.declared.request.Ask.TheVariants as ask
use Rattle.dl_wire.specs.declared.request.Request.{Request}
use Rattle.dl_wire.specs.Decode.{request_in}
use Rattle.dl_wire.specs.Fits.{IsRequest}
use Rattle.dl_wire.specs.Request.{request_text}
use Rattle.dl_serve.specs.declared.held.HeldSync.{HeldSync}

-- when a text is served that came: a sync of this client is held, a call by which its client logs or reads comes after what is held if a sync of its client is, and anything else comes after what is held
pub data Moment : Type 0 where
  Later : ClientId → Moment
  After : Option ClientId → Moment

-- a text that is held, which asks for a sync of this client
pub record Held : Type 0 where
  pub client : ClientId
  pub text : List ℕ

-- the clients whose syncs are held
abbrev pub holders_of : List Held → List ClientId
holders_of held = map (λ (h : Held). h.client) held

-- the syncs of these holders come before a call by which the client logs or reads, if it is one of them, and before anything else
abbrev pub are_due : Option ClientId → List ClientId → Bool
are_due (Some client) holders = is_among holders client
are_due None holders = true

-- the texts that come first: of all that are held, or of none
abbrev pub awaited : Option ClientId → List Held → List (List ℕ)
awaited client held = if are_due client (holders_of held) then map (λ (h : Held). h.text) held else []

-- those that are held on: none, or all
abbrev pub unawaited : Option ClientId → List Held → List Held
unawaited client held = if are_due client (holders_of held) then [] else held

-- what is served as a text comes, while these are held
abbrev pub served_at : Moment → List ℕ → List Held → List (List ℕ)
served_at (Later client) text held = []
served_at (After client) text held = awaited client held ++ text ∷ []

-- what is held after it
abbrev pub held_after : Moment → List ℕ → List Held → List Held
held_after (Later client) text held = held ++ record { client = client; text = text } ∷ []
held_after (After client) text held = unawaited client held

-- a request for a sync is held
abbrev pub moment_by : Option HeldSync → Option ClientId → Moment
moment_by (Some sync) client = Later sync.client
moment_by None client = After client

module _ {Z : Type 0} where
  -- the sync that is asked for
  abbrev pub sync_in : ℕ → Ask Z → Option HeldSync
  sync_in tag (ask.Event (event.Call client log (call.Act act.Sync))) = Some (record { tag = tag; client = client; log = log })
  sync_in tag other = None

  -- the client of a call that logs or reads
  abbrev pub caller_of : Ask Z → Option ClientId
  caller_of (ask.Event (event.Call client log (call.Act (act.Log items)))) = Some client
  caller_of (ask.Event (event.Call client log (call.Act (act.Chunk from most)))) = Some client
  caller_of (ask.Event (event.Call client log (call.Act (act.ChunkStep from by)))) = Some client
  caller_of (ask.Event (event.Call client log (call.Act act.Info))) = Some client
  caller_of (ask.Event (event.Call client log (call.Alog items))) = Some client
  caller_of other = None

  abbrev pub moment_of : Request Z → Moment
  moment_of r = moment_by (sync_in r.tag r.ask) (caller_of r.ask)

  -- the moment of what was read of a text
  abbrev pub moment_read : Result (Request Z) ℕ → Moment
  moment_read (Ok r) = moment_of r
  moment_read (Err place) = After None

module _ (Z : Type 0) where
  -- the request of a sync that is held
  abbrev pub request_of : HeldSync → Request Z
  request_of sync = record { tag = sync.tag; ask = ask.Event (event.Call sync.client sync.log (call.Act act.Sync)) }

  abbrev pub held_of : HeldSync → Held
  held_of sync = record { client = sync.client; text = request_text (request_of sync) }

  abbrev pub all_held : List HeldSync → List Held
  all_held syncs = map held_of syncs

  abbrev pub AreRequests : List HeldSync → Type 0
  AreRequests syncs = All (λ (sync : HeldSync). IsRequest (request_of sync)) syncs

  abbrev pub moment_in : List ℕ → Moment
  moment_in text = moment_read (request_in {Z = Z} text)

  -- the order of these texts, while others are held. Those that are held at the end are served then
  abbrev pub arranged_after : List Held → List (List ℕ) → List (List ℕ)
  arranged_after held [] = awaited None held
  arranged_after held (text ∷ texts) = served_at (moment_in text) text held ++ arranged_after (held_after (moment_in text) text held) texts

  -- the order in which texts are served that came together
  abbrev pub arranged : List (List ℕ) → List (List ℕ)
  arranged texts = arranged_after [] texts
