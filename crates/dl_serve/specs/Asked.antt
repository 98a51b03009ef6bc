-- What is done for an event, and what is answered.
use Rattle.std.specs.Prelude.{◌≡◌, ◌==◌, ◌&&◌, ℕ, List, [], ◌∷◌, ◌++◌, Bool, true, false, nat_lt, length, if◌then◌else◌}
use Rattle.std.specs.List.{flat_map}
use Rattle.dl_types.specs.declared.event.Event.{Event}
use Rattle.dl_types.specs.declared.name.ClientId.{ClientId}
use Rattle.dl_types.specs.declared.reply.Outcome.{Outcome}
use Rattle.dl_types.specs.declared.reply.Reply.{Reply}
use Rattle.dl_types.specs.Notice.{Told}
use Rattle.dl_types.specs.Block.{may_wake}
use Rattle.dl_disk.specs.Disk.{DiskState}
use Rattle.dl_hub.specs.View.{HubView}
use Rattle.dl_hub.specs.Step.{IsStep}
use Rattle.dl_wire.specs.declared.limits.TheConstants.{SUSPENDED_LIMIT}
use Rattle.dl_wire.specs.Answer.{answer_text, notice_text, frame_text}
use Rattle.dl_serve.specs.declared.waiting.Waiting.{Waiting}
use Rattle.dl_serve.specs.Event.{joiner_of, is_suspended, with_client}

-- what was come to: a hub, the calls that blocks suspended, the oldest first, and the clients that may have a part in a log
pub record Stage (D Z : Type 0) : Type 0 where
  pub hub : HubView D
  pub waiting : List (Waiting Z)
  pub clients : List ClientId

abbrev pub notice_frame : Told → List ℕ
notice_frame told = frame_text (notice_text told)

-- steps one after another, each with what it answers
abbrev pub Chain : {X S : Type 0} → (X → S → S → List ℕ → Type 0) → List X → S → S → List ℕ → Type 0
Chain Step [] old new frames = (new ≡ old) × (frames ≡ [])
Chain {S = S} Step (x ∷ xs) old new frames =
    (mid : S) × (first : List ℕ) × (others : List ℕ) × Step x old mid first × Chain Step xs mid new others × (frames ≡ first ++ others)

module _ {Z : Type 0} where
  -- the frame of a reply. A tag of 0 asks for none
  abbrev pub reply_frame : ℕ → Reply Z → List ℕ
  reply_frame tag reply = if tag == 0 then [] else frame_text (answer_text tag reply)

  -- the frames of an outcome: the reply, unless the call waits on, and then the notices
  abbrev pub outcome_frames : Bool → ℕ → Outcome Z → List ℕ
  outcome_frames true tag o = flat_map notice_frame o.notices
  outcome_frames false tag o = reply_frame tag o.reply ++ flat_map notice_frame o.notices

  -- a call waits: it was suspended, and there is room for one more
  abbrev pub will_wait : Outcome Z → List (Waiting Z) → Bool
  will_wait o ws = is_suspended o.reply && nat_lt (length ws) SUSPENDED_LIMIT

  -- the calls that wait after an event
  abbrev pub with_waiting : Bool → ℕ → Event Z → List (Waiting Z) → List (Waiting Z)
  with_waiting true tag e ws = ws ++ record { tag = tag; event = e } ∷ []
  with_waiting false tag e ws = ws

  -- a call that was made again waits on if it is suspended
  abbrev pub kept_of : Bool → Waiting Z → List (Waiting Z)
  kept_of true w = w ∷ []
  kept_of false w = []

module _ {D Z : Type 0} (state : D → DiskState) where
  -- calls that wait are made again, the oldest first; those that are still suspended wait on, and the others are answered
  abbrev pub AreMade : List (Waiting Z) → HubView D → HubView D → List (Waiting Z) → List ℕ → Type 0
  AreMade [] old new kept frames = (new ≡ old) × (kept ≡ []) × (frames ≡ [])
  AreMade (w ∷ ws) old new kept frames =
      (o : Outcome Z) × (mid : HubView D) × (later : List (Waiting Z)) × (others : List ℕ)
      × IsStep state old mid w.event o
      × AreMade ws mid new later others
      × (kept ≡ kept_of (is_suspended o.reply) w ++ later)
      × (frames ≡ outcome_frames (is_suspended o.reply) w.tag o ++ others)

  -- the calls that wait are made again if a block may have fallen
  abbrev pub Wakes : Bool → List (Waiting Z) → HubView D → HubView D → List (Waiting Z) → List ℕ → Type 0
  Wakes true ws old new kept frames = AreMade ws old new kept frames
  Wakes false ws old new kept frames = (new ≡ old) × (kept ≡ ws) × (frames ≡ [])

  -- an event is one step of the hub. Its answer and its notices come first, and then those of the calls that are made again
  pub record IsAsked (tag : ℕ) (e : Event Z) (old new : Stage D Z) (frames : List ℕ) : Type 0 where
    pub outcome : Outcome Z
    pub mid : HubView D
    pub woken : List ℕ
    pub step : IsStep state old.hub mid e outcome
    pub wakes : Wakes (may_wake e) (with_waiting (will_wait outcome old.waiting) tag e old.waiting) mid new.hub new.waiting woken
    pub clients : new.clients ≡ with_client (joiner_of e) old.clients
    pub whole : frames ≡ outcome_frames (will_wait outcome old.waiting) tag outcome ++ woken
