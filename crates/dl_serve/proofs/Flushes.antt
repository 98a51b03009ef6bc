-- Flushes one after another.
use Rattle.std.proofs.Common.{◌≡◌, inl, inr, ℕ, suc, List, [], Bool, true, false, true≢false, ◌&&◌, nat_lt, length, replicate, refl, sym, ap, subst, ◌∙◌, append-nil}
use Rattle.std.specs.List.{flat_map}
use Rattle.dl_types.specs.Notice.{Told}
use Rattle.dl_types.specs.declared.event.Event.TheVariants as event
use Rattle.dl_types.specs.declared.reply.Outcome.{Outcome}
use Rattle.dl_types.specs.declared.reply.Reply.TheVariants as reply
use Rattle.dl_types.specs.declared.reply.Turn.{Turn}
use Rattle.dl_types.specs.declared.reply.Turn.TheVariants as turn
use Rattle.dl_disk.specs.Disk.{DiskState}
use Rattle.dl_hub.specs.View.{HubView}
use Rattle.dl_hub.specs.Flush.{IsTurnOf, IsTurn}
use Rattle.dl_hub.specs.Step.{IsStep}
use Rattle.dl_hub.specs.Written.{has_drained, IsWritten}
use Rattle.dl_hub.proofs.Written.{all_written}
use Rattle.dl_wire.specs.declared.limits.TheConstants.{SUSPENDED_LIMIT}
use Rattle.dl_serve.specs.declared.left.Left.{Left}
use Rattle.dl_serve.specs.Event.{is_suspended}
use Rattle.dl_serve.specs.Asked.{Stage, Chain, IsAsked, notice_frame, outcome_frames, will_wait, with_waiting}
use Rattle.dl_serve.specs.Left.{is_nothing, left_of}
use Rattle.dl_serve.specs.Serve.{IsFlushed, IsLastFlushed}
use Rattle.dl_serve.proofs.Chains.{chain_more, replicate_more}

module _ {D : Type 0} (Z : Type 0) (state : D → DiskState) where
  idle : (old new : HubView D) (t : Turn) → IsTurnOf state old new t → is_nothing (left_of {Z = Z} (reply.Turn t)) ≡ true → IsWritten new
  idle old new turn.Idle is found = all_written state old new is
  idle old new (turn.Drained L) is none = absurd (true≢false (sym none))
  idle old new (turn.Fault L) is none = absurd (true≢false (sym none))

module _ {D Z : Type 0} (state : D → DiskState) where
  -- after a turn that leaves nothing nothing waits, and no log lingers
  pub nothing_left : (old new : HubView D) (o : Outcome Z) → IsStep state old new event.Flush o → is_nothing (left_of o.reply) ≡ true → IsWritten new
  nothing_left old new o step found = by (step.turn refl)
    where
      by : IsTurn state old new o.reply → IsWritten new
      by (inl t) = idle Z state old new t.0 t.2 (sym (ap (λ r. is_nothing (left_of r)) t.1) ∙ found)
      by (inr want) = absurd (true≢false (sym found ∙ ap (λ r. is_nothing (left_of r)) want.0))

  -- no block suspends a flush
  goes_on : (old new : HubView D) (o : Outcome Z) → IsStep state old new event.Flush o → is_suspended o.reply ≡ false
  goes_on old new o step = by (step.turn refl)
    where
      by : IsTurn state old new o.reply → is_suspended o.reply ≡ false
      by (inl t) = ap is_suspended t.1
      by (inr want) = ap is_suspended want.0

  -- a flush calls no waiting call up
  pub flush_is : (tag : ℕ) (old new : Stage D Z) (o : Outcome Z) → IsStep state old.hub new.hub event.Flush o
      → new.waiting ≡ with_waiting (will_wait o old.waiting) tag event.Flush old.waiting → new.clients ≡ old.clients
      → (asked : IsAsked state tag event.Flush old new (outcome_frames (will_wait o old.waiting) tag o)) × (asked.outcome ≡ o)
  flush_is tag old new o step waiting clients =
      let asked : IsAsked state tag event.Flush old new (outcome_frames (will_wait o old.waiting) tag o) = record {
        outcome = o;
        mid = new.hub;
        woken = [];
        step = step;
        wakes = (refl, waiting, refl);
        clients = clients;
        whole = sym (append-nil (outcome_frames (will_wait o old.waiting) tag o));
      } in (asked, refl)

  flush_asked : (tag : ℕ) (old new : Stage D Z) (o : Outcome Z) → IsStep state old.hub new.hub event.Flush o
      → new.waiting ≡ with_waiting (will_wait o old.waiting) tag event.Flush old.waiting → new.clients ≡ old.clients
      → (drained : Bool) → has_drained o.reply ≡ drained → IsFlushed state drained tag old new (outcome_frames (will_wait o old.waiting) tag o)
  flush_asked tag old new o step waiting clients drained is =
      let flush = flush_is tag old new o step waiting clients in (flush.0, ap (λ (p : Outcome Z). has_drained p.reply) flush.1 ∙ is)

  -- the last flush says what is left
  pub flush_last : (tag : ℕ) (old new : Stage D Z) (o : Outcome Z) (left : Left) → IsStep state old.hub new.hub event.Flush o
      → new.waiting ≡ with_waiting (will_wait o old.waiting) tag event.Flush old.waiting → new.clients ≡ old.clients
      → has_drained o.reply ≡ false → left ≡ left_of o.reply → IsLastFlushed state tag left old new (outcome_frames (will_wait o old.waiting) tag o)
  flush_last tag old new o left step waiting clients none told =
      let flush = flush_is tag old new o step waiting clients in
      (flush.0, ap (λ (p : Outcome Z). has_drained p.reply) flush.1 ∙ none, told ∙ sym (ap (λ (p : Outcome Z). left_of p.reply) flush.1))

  -- one that asks for no answer gets none
  pub flush_unasked : (old new : Stage D Z) (o : Outcome Z) → IsStep state old.hub new.hub event.Flush o → new.waiting ≡ old.waiting → new.clients ≡ old.clients
      → has_drained o.reply ≡ true → IsFlushed state true 0 old new []
  flush_unasked old new o step waiting clients is =
      let waits : will_wait o old.waiting ≡ false = ap (λ (b : Bool). b && nat_lt (length old.waiting) SUSPENDED_LIMIT) (goes_on old.hub new.hub o step) in
      let stays = waiting ∙ sym (ap (λ (b : Bool). with_waiting b 0 event.Flush old.waiting) waits) in
      let silent : outcome_frames (will_wait o old.waiting) 0 o ≡ [] = ap (λ (b : Bool). outcome_frames b 0 o) waits ∙ ap (λ (ns : List Told). flat_map notice_frame ns) ((step.turn_told refl).silent (λ L failed. true≢false (sym is ∙ ap has_drained failed))) in
      subst (λ (f : List ℕ). IsFlushed state true 0 old new f) silent (flush_asked 0 old new o step stays clients true is)

  -- one more of the flushes that drained a log
  pub flushed_more : (n : ℕ) (old mid new : Stage D Z) → Chain (λ drained. IsFlushed state drained 0) (replicate n true) old mid [] → IsFlushed state true 0 mid new []
      → Chain (λ drained. IsFlushed state drained 0) (replicate (suc n) true) old new []
  flushed_more n old mid new chain step =
      subst (λ (l : List Bool). Chain (λ drained. IsFlushed state drained 0) l old new []) (replicate_more n true) (chain_more (λ drained. IsFlushed state drained 0) (replicate n true) old mid new [] true [] chain step)
