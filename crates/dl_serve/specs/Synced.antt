-- A sync of many logs, which one request asks for.
use Rattle.std.specs.Prelude.{◌≡◌, ◌==◌, ℕ, List, [], ◌∷◌, ◌++◌, map, is_some, if◌then◌else◌}
use Rattle.std.specs.List.{flat_map, list_any, IsDistinct}
use Rattle.std.specs.List.Sorted.{IsSortedByKey}
use Rattle.std.specs.Ordering.{nat_cmp}
use Rattle.dl_types.specs.declared.call.Act.TheVariants as act
use Rattle.dl_types.specs.declared.call.Call.TheVariants as call
use Rattle.dl_types.specs.declared.event.Event.{Event}
use Rattle.dl_types.specs.declared.event.Event.TheVariants as event
use Rattle.dl_types.specs.declared.name.ClientId.{ClientId}
use Rattle.dl_types.specs.declared.name.Name.{Name}
use Rattle.dl_types.specs.declared.reply.Outcome.{Outcome}
use Rattle.dl_types.specs.declared.reply.Reply.{Reply}
use Rattle.dl_types.specs.Name.{same_name}
use Rattle.dl_disk.specs.Disk.{DiskState}
use Rattle.dl_hub.specs.View.{HubView, log_at, number_in}
use Rattle.dl_hub.specs.Run.{IsRun}
use Rattle.dl_wire.specs.declared.unsynced.Unsynced.{Unsynced}
use Rattle.dl_wire.specs.Answer.{frame_text}
use Rattle.dl_wire.specs.Unsynced.{unsynced_answer}
use Rattle.dl_serve.specs.Asked.{Stage, notice_frame}
use Rattle.dl_serve.specs.Event.{is_done}

-- the names of the open logs, in order of opening
pub record AreOpen {D : Type 0} (hub : HubView D) (names : List Name) : Type 0 where
  pub each : (L : Name) → list_any (same_name L) names ≡ is_some (log_at hub.logs L)
  pub once : IsDistinct same_name names
  pub order : IsSortedByKey (number_in hub.logs) nat_cmp names

-- the logs that are meant: those that are named, or all open ones if none is
abbrev pub AreMeant : {D : Type 0} → HubView D → List Name → List Name → Type 0
AreMeant hub [] logs = AreOpen hub logs
AreMeant hub named logs = logs ≡ named

module _ {Z : Type 0} where
  -- a client asks for a sync of a log
  abbrev pub sync_event : ClientId → Name → Event Z
  sync_event client log = event.Call client log (call.Act act.Sync)

  -- a log whose sync was not done, with the reply; or none
  abbrev pub unsynced_by : Name → Reply Z → List (Unsynced Z)
  unsynced_by log reply = if is_done reply then [] else record { log = log; reply = reply } ∷ []

  -- the logs whose syncs were not done, in their order
  abbrev pub unsynced_of : List Name → List (Outcome Z) → List (Unsynced Z)
  unsynced_of (log ∷ logs) (o ∷ os) = unsynced_by log o.reply ++ unsynced_of logs os
  unsynced_of logs os = []

  -- the frame of the answer. A tag of 0 asks for none
  abbrev pub unsynced_frame : ℕ → List (Unsynced Z) → List ℕ
  unsynced_frame tag unsynced = if tag == 0 then [] else frame_text (unsynced_answer tag unsynced)

  abbrev pub notices_of : List (Outcome Z) → List ℕ
  notices_of os = flat_map (λ (o : Outcome Z). flat_map notice_frame o.notices) os

-- each log that is meant is synced, by one event of this client, one log after another. The answer has those whose sync was not done, and then the notices come
pub record AreSynced {D Z : Type 0} (state : D → DiskState) (tag : ℕ) (client : ClientId) (named : List Name) (old new : Stage D Z) (frames : List ℕ) : Type 0 where
  pub logs : List Name
  pub outcomes : List (Outcome Z)
  pub meant : AreMeant old.hub named logs
  pub run : IsRun state old.hub new.hub (map (sync_event client) logs) outcomes
  pub waiting : new.waiting ≡ old.waiting
  pub clients : new.clients ≡ old.clients
  pub whole : frames ≡ unsynced_frame tag (unsynced_of logs outcomes) ++ notices_of outcomes
