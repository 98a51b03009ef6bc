-- Syncs of logs, and one more.
use Rattle.std.proofs.Common.{◌≡◌, [], ◌∷◌, ◌++◌, ℕ, List, Bool, true, false, true≢false, cond, eqb, length, map, refl, sym, ap, ◌∙◌, append_assoc, append-nil, arith}
use Rattle.std.specs.List.{flat_map}
use Rattle.std.proofs.lemmas.Bool.{eqb-true}
use Rattle.std.proofs.lemmas.List.Concat.{flat_map-append, flat_map-cons}
use Rattle.dl_types.specs.declared.name.ClientId.{ClientId}
use Rattle.dl_types.specs.declared.name.Name.{Name}
use Rattle.dl_types.specs.declared.reply.Outcome.{Outcome}
use Rattle.dl_types.specs.declared.reply.Reply.{Reply}
use Rattle.dl_disk.specs.Disk.{DiskState}
use Rattle.dl_hub.specs.View.{HubView}
use Rattle.dl_hub.specs.Run.{IsRun}
use Rattle.dl_wire.specs.declared.unsynced.Unsynced.{Unsynced}
use Rattle.dl_serve.specs.Asked.{notice_frame}
use Rattle.dl_serve.specs.Event.{is_done}
use Rattle.dl_serve.specs.Synced.{AreMeant, AreOpen, notices_of, sync_event, unsynced_by, unsynced_of}

module _ {D Z : Type 0} (state : D → DiskState) where
  -- one log more, where each of those before has its outcome
  pub unsynced_more : (client : ClientId) (logs : List Name) (os : List (Outcome Z)) (log : Name) (o : Outcome Z) (old new : HubView D)
      → IsRun state old new (map (sync_event client) logs) os → unsynced_of (logs ++ log ∷ []) (os ++ o ∷ []) ≡ unsynced_of logs os ++ unsynced_by log o.reply
  unsynced_more client [] [] log o old new run = append-nil (unsynced_by log o.reply)
  unsynced_more client [] (p ∷ os) log o old new run = absurd run
  unsynced_more client (q ∷ logs) [] log o old new run = absurd run
  unsynced_more client (q ∷ logs) (p ∷ os) log o old new run =
      ap (λ (l : List (Unsynced Z)). unsynced_by q p.reply ++ l) (unsynced_more client logs os log o run.0 new run.2)
      ∙ sym (append_assoc (unsynced_by q p.reply) (unsynced_of logs os) (unsynced_by log o.reply))

-- a sync that was done leaves its log out of the answer, and any other puts it in
module _ {Z : Type 0} (log : Name) (reply : Reply Z) where
  abbrev one : Unsynced Z
  one = record { log = log; reply = reply }

  pub unsynced_none : is_done reply ≡ true → [] ≡ unsynced_by log reply
  unsynced_none is = ap (λ (b : Bool). cond b [] (one ∷ [])) (sym is)

  pub unsynced_one : is_done reply ≡ false → one ∷ [] ≡ unsynced_by log reply
  unsynced_one is = ap (λ (b : Bool). cond b [] (one ∷ [])) (sym is)

-- the logs that are meant where none is named, and where some are
module _ {D : Type 0} (hub : HubView D) where
  pub meant_open : (named logs : List Name) → eqb (length named) 0 ≡ true → AreOpen hub logs → AreMeant hub named logs
  meant_open [] logs none found = found
  meant_open (x ∷ named) logs none found = let len = eqb-true (length (x ∷ named)) 0 none in absurd (omega (arith, len))

  pub meant_named : (named : List Name) → eqb (length named) 0 ≡ false → AreMeant hub named named
  meant_named [] some = absurd (true≢false some)
  meant_named (x ∷ named) some = refl

pub notices_more : {Z : Type 0} (os : List (Outcome Z)) (o : Outcome Z) → notices_of (os ++ o ∷ []) ≡ notices_of os ++ flat_map notice_frame o.notices
notices_more {Z} os o =
    let f : Outcome Z → List ℕ = λ (p : Outcome Z). flat_map notice_frame p.notices in
    flat_map-append f os (o ∷ []) ∙ ap (λ (l : List ℕ). flat_map f os ++ l) (flat_map-cons f o [] ∙ append-nil (f o))
