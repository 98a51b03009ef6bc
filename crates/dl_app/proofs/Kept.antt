-- Where each client goes on reading after one place was kept.
use Rattle.std.proofs.Common.{◌≡◌, ℕ, List, Bool, true, false, cond, ◌&&◌, Result, Ok, Err, OnOk, refl, sym, ◌∙◌, ap, ◌⊎◌, inl, inr}
use Rattle.std.proofs.lemmas.Bool.{eqb-true}
use Rattle.dl_types.specs.declared.name.ClientId.{ClientId}
use Rattle.dl_types.specs.declared.name.Name.{Name}
use Rattle.dl_types.specs.declared.place.Continuation.{Continuation}
use Rattle.dl_types.specs.declared.place.Place.{Place}
use Rattle.dl_types.specs.declared.place.Place.TheVariants.{At}
use Rattle.dl_types.specs.declared.reply.Reply.{Reply}
use Rattle.dl_types.specs.declared.reply.Reply.TheVariants as reply
use Rattle.dl_types.specs.Name.{same_client, same_name}
use Rattle.dl_types.proofs.Keys.{name_decides, both}
use Rattle.dl_app.specs.Places.{places_after, given_place}

client_is : (a b : ClientId) → same_client a b ≡ true → a ≡ b
client_is a b e = let same = eqb-true a.0 b.0 e in λ i. record { 0 = same i }

module _ (old new : ClientId → Name → Place) (client : ClientId) (log : Name) (place : Continuation) (kept : new client log ≡ At place)
    (others : (c : ClientId) (l : Name) → (same_client client c && same_name log l) ≡ false → new c l ≡ old c l) where
  kept_at : (c : ClientId) (l : Name) (b : Bool) → (same_client client c && same_name log l) ≡ b → new c l ≡ cond b (At place) (old c l)
  kept_at c l true e =
      let each = both _ _ e in
      ap (λ (d : ClientId). new d l) (sym (client_is client c each.0)) ∙ ap (new client) (sym ((name_decides log l).0 each.1)) ∙ kept
  kept_at c l false e = others c l e

  pub all_kept : new ≡ (λ c l. cond (same_client client c && same_name log l) (At place) (old c l))
  all_kept = λ i c l. kept_at c l (same_client client c && same_name log l) refl i

-- a reply with items, or the place that a step led to, gives a place
pub gives_place : {Z : Type 0} (given : Reply Z) (next : Continuation) (old : ClientId → Name → Place) (client : ClientId) (log : Name)
    → ((items : List (List ℕ)) × (bad : ℕ) × given ≡ reply.Items next items bad) ⊎ (given ≡ reply.At next) → places_after given client log old ≡ given_place next client log old
gives_place given next old client log (inl items) = ap (λ r. places_after r client log old) items.2
gives_place given next old client log (inr at) = ap (λ r. places_after r client log old) at

-- the same, after a reply that gives a place
pub keeps_all : {Z E : Type 0} (r : Result (Unit {0}) E) (given : Reply Z) (next : Continuation) (old new : ClientId → Name → Place) (client : ClientId) (log : Name)
    → places_after given client log old ≡ given_place next client log old → OnOk r (new client log ≡ At next)
    → ((c : ClientId) (l : Name) → (same_client client c && same_name log l) ≡ false → new c l ≡ old c l) → OnOk r (new ≡ places_after given client log old)
keeps_all (Ok x) given next old new client log is kept others = all_kept old new client log next kept others ∙ sym is
keeps_all (Err e) given next old new client log is kept others = tt
