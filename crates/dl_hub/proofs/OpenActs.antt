-- Acts: calls that leave an open log open with its members.
use Rattle.std.proofs.Common.{◌≡◌, false, subst, sym, ap, ◌∙◌, ℕ, List, Option, Some, None}
use Rattle.dl_hub.proofs.Words.{Answer, Call, DiskState, HubView, if_open, IsCallAs, Kind, kind_in, LogState, Name, OpenLog, Place, Refused, Reply, Told}
use Rattle.dl_types.specs.declared.call.Act.{Act}
use Rattle.dl_types.specs.declared.call.Act.TheVariants.{Chunk}
use Rattle.dl_types.specs.declared.call.Call.TheVariants as call
use Rattle.dl_types.specs.declared.refusal.Refusal.TheVariants.{StaleContinuation}
use Rattle.dl_types.specs.Alone.{act_open, chunk_open}
use Rattle.dl_log.specs.Class.{class_of_act}

-- calls that are the same act
pub same_act : {Z : Type 0} {a b : Act Z} → ◌≡◌ {A = Call Z} (call.Act a) (call.Act b) → a ≡ b
same_act same = cc

-- an act on a log of this kind, for a hub that is equal to this one
pub act_between : {D Z : Type 0} (state : D → DiskState) (old old' new : HubView D) (name : Name) (asked : Act Z) (answer : LogState → Answer Z) (r : Reply Z) (ns : List Told) (k : Kind) → old ≡ old' → k ≡ kind_in old.logs name
    → IsCallAs false false ((class_of_act asked).late k) state old new name (λ _. false) answer r ns → IsCallAs false false ((class_of_act asked).late (kind_in old'.logs name)) state old' new name (λ _. false) answer r ns
act_between {D} {Z} state old old' new name asked answer r ns k before of did =
    subst (λ (v : HubView D). IsCallAs {Z = Z} false false ((class_of_act asked).late (kind_in v.logs name)) state v new name (λ _. false) answer r ns) before
    (subst (λ (j : Kind). IsCallAs {Z = Z} false false ((class_of_act asked).late j) state old new name (λ _. false) answer r ns) of did)

-- a log that is not open refuses no place
pub stale_closed : {Z : Type 0} (s : LogState) (answer : OpenLog → Answer Z) → s.open_as ≡ None → (if_open s s.open_as answer).reply ≡ Refused StaleContinuation → ⊥
stale_closed {Z} s answer closed stale = let clash = sym (ap (λ (p : Option OpenLog). (if_open {Z = Z} s p answer).reply) closed) ∙ stale in cc

-- an open log refuses a place as it does by its chunk
pub stale_open : {Z : Type 0} (name : Name) (asked : Act Z) (from : Place) (most : ℕ) (s : LogState) (o : OpenLog) → asked ≡ Chunk from most → s.open_as ≡ Some o → (if_open s s.open_as (act_open name asked s)).reply ≡ Refused StaleContinuation
    → (chunk_open {Z = Z} name from most s o).reply ≡ Refused StaleContinuation
stale_open {Z} name asked from most s o is opened stale =
    ap (λ (a : Act Z). (act_open {Z = Z} name a s o).reply) (sym is) ∙ sym (ap (λ (p : Option OpenLog). (if_open {Z = Z} s p (act_open name asked s)).reply) opened) ∙ stale
