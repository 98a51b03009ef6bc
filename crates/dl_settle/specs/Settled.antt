-- What the clients of a server kept, beside the trail of its hub.
use Rattle.std.specs.Prelude.{◌≡◌, ◌≢◌, ℕ, ◌<◌, ◌≤◌, ◌==◌, Bool, true, false, List, [], ◌∷◌, length, take, Option, Some, None, slice_get, if◌then◌else◌, count_by, All}
use Rattle.std.specs.List.{list_any, IsAmong}
use Rattle.dl_types.specs.declared.name.ClientId.{ClientId}
use Rattle.dl_types.specs.declared.name.Name.{Name}
use Rattle.dl_types.specs.declared.call.Call.{Call as Asked}
use Rattle.dl_types.specs.declared.call.Call.TheVariants as call
use Rattle.dl_types.specs.declared.event.Event.{Event}
use Rattle.dl_types.specs.declared.event.Event.TheVariants as event
use Rattle.dl_types.specs.Solo.{Entry}
use Rattle.dl_server.specs.declared.client.Did.{Did}
use Rattle.dl_server.specs.declared.client.Did.TheVariants.{Call, Sent}
use Rattle.dl_server.specs.declared.client.Done.{Done}
use Rattle.dl_settle.specs.declared.settlement.SettleFault.{SettleFault}
use Rattle.dl_settle.specs.declared.settlement.SettleFault.TheVariants.{NoTrail, Twice, Stranger, Absent, Differs}

abbrev pub is_client : ClientId → Option ClientId → Bool
is_client c None = false
is_client c (Some d) = d.0 == c.0

-- the first place where two lists differ, or one of them has ended
pub record FirstDiffers {X : Type 0} (xs ys : List X) (k : ℕ) : Type 0 where
  pub same : take k xs ≡ take k ys
  pub left : k ≤ length xs
  pub right : k ≤ length ys
  pub here : slice_get xs k ≢ slice_get ys k

module _ {A : Type 0} where
  -- ---- what the trail has of a client
  -- who asked for an event; nobody asks for a flush
  abbrev pub client_of : Event A → Option ClientId
  client_of (event.Call client name c) = Some client
  client_of (event.Exit client) = Some client
  client_of event.Flush = None

  abbrev pub is_by : ClientId → Entry A → Bool
  is_by c e = is_client c (client_of e.event)

  -- how a client keeps a call of its own: items that it sent without the reply, any other call with it
  abbrev pub call_did : Name → Asked A → Entry A → Did A
  call_did name (call.Alog items) e = Sent name items
  call_did name other e = Call e.event e.outcome.reply

  -- how a client keeps an event of its own
  abbrev pub event_did : Event A → Entry A → Did A
  event_did (event.Call client name c) e = call_did name c e
  event_did other e = Call e.event e.outcome.reply

  abbrev pub did_of : Entry A → Did A
  did_of e = event_did e.event e

  -- what a client did by the trail, in order
  abbrev pub dids_of : ClientId → List (Entry A) → List (Did A)
  dids_of c [] = []
  dids_of c (e ∷ es) = if is_by c e then did_of e ∷ dids_of c es else dids_of c es

  abbrev pub has_entry : ClientId → List (Entry A) → Bool
  has_entry c trail = list_any (is_by c) trail

  -- ---- the clients that were given
  abbrev pub is_id : ClientId → Done A → Bool
  is_id c d = d.id.0 == c.0

  abbrev pub has_done : ClientId → List (Done A) → Bool
  has_done c dones = list_any (is_id c) dones

  abbrev pub count_of : ClientId → List (Done A) → ℕ
  count_of c dones = count_by (is_id c) dones

  -- this client was given, if it is one
  abbrev pub IsGiven : List (Done A) → Option ClientId → Type 0
  IsGiven dones None = Unit {0}
  IsGiven dones (Some c) = has_done c dones ≡ true

  -- no two have the same id
  abbrev pub AreDistinct : List (Done A) → Type 0
  AreDistinct dones = All (λ d. count_of d.id dones ≤ 1) dones

  -- the trail has an entry of each
  abbrev pub AreKnown : List (Entry A) → List (Done A) → Type 0
  AreKnown trail dones = All (λ d. has_entry d.id trail ≡ true) dones

  -- each client of which the trail has an entry is there
  abbrev pub AreComplete : List (Entry A) → List (Done A) → Type 0
  AreComplete trail dones = All (λ e. IsGiven dones (client_of e.event)) trail

  -- each did what the trail says
  abbrev pub AreSame : List (Entry A) → List (Done A) → Type 0
  AreSame trail dones = All (λ d. d.did.items ≡ dids_of d.id trail) dones

  -- the clients are those of the trail, once each, and each did what the trail says
  pub record IsSettled (trail : List (Entry A)) (dones : List (Done A)) : Type 0 where
    pub distinct : AreDistinct dones
    pub known : AreKnown trail dones
    pub complete : AreComplete trail dones
    pub same : AreSame trail dones

  -- ---- why they are not settled
  -- one of this id did something else than the trail says, first at this place
  abbrev pub DiffersAt : List (Entry A) → List (Done A) → ClientId → ℕ → Type 0
  DiffersAt trail dones c k = (d : Done A) × IsAmong dones d × (d.id ≡ c) × FirstDiffers d.did.items (dids_of c trail) k

  -- what a fault says: each later one is given only if no earlier one could be
  abbrev pub Blames : Bool → List (Entry A) → List (Done A) → SettleFault → Type 0
  Blames kept trail dones NoTrail = kept ≡ false
  Blames kept trail dones (Twice c) = (kept ≡ true) × (1 < count_of c dones)
  Blames kept trail dones (Stranger c) = (kept ≡ true) × AreDistinct dones × (has_done c dones ≡ true) × (has_entry c trail ≡ false)
  Blames kept trail dones (Absent c) = (kept ≡ true) × AreDistinct dones × AreKnown trail dones × (has_entry c trail ≡ true) × (has_done c dones ≡ false)
  Blames kept trail dones (Differs c k) = (kept ≡ true) × AreDistinct dones × AreKnown trail dones × AreComplete trail dones × DiffersAt trail dones c k
