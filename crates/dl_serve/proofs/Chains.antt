-- Steps one after another, and one more.
use Rattle.std.proofs.Common.{◌≡◌, ℕ, zero, suc, List, [], ◌∷◌, ◌++◌, drop, length, arith, replicate, refl, sym, ap, subst, ◌∙◌, append_assoc, append-nil}
use Rattle.std.specs.List.{flat_map}
use Rattle.std.proofs.lemmas.List.{flat_map_more}
use Rattle.dl_types.specs.declared.reply.Outcome.{Outcome}
use Rattle.dl_disk.specs.Disk.{DiskState}
use Rattle.dl_hub.specs.View.{HubView}
use Rattle.dl_hub.specs.Step.{IsStep}
use Rattle.dl_serve.specs.declared.waiting.Waiting.{Waiting}
use Rattle.dl_serve.specs.Event.{is_suspended}
use Rattle.dl_serve.specs.Asked.{Chain, AreMade, kept_of, outcome_frames}

module _ {X S : Type 0} (Step : X → S → S → List ℕ → Type 0) where
  pub chain_more : (xs : List X) (old mid new : S) (done : List ℕ) (x : X) (frames : List ℕ) → Chain Step xs old mid done → Step x mid new frames → Chain Step (xs ++ x ∷ []) old new (done ++ frames)
  chain_more [] old mid new done x frames chain step = (
    new,
    frames,
    [],
    subst (λ (s : S). Step x s new frames) chain.0 step,
    (refl, refl),
    ap (λ (l : List ℕ). l ++ frames) chain.1 ∙ sym (append-nil frames),
  )
  chain_more (y ∷ xs) old mid new done x frames chain step = (
    chain.0,
    chain.1,
    chain.2 ++ frames,
    chain.3,
    chain_more xs chain.0 mid new chain.2 x frames chain.4 step,
    ap (λ (l : List ℕ). l ++ frames) chain.5 ∙ append_assoc chain.1 chain.2 frames,
  )

  pub chain_both : (xs ys : List X) (old mid new : S) (done frames : List ℕ) → Chain Step xs old mid done → Chain Step ys mid new frames → Chain Step (xs ++ ys) old new (done ++ frames)
  chain_both [] ys old mid new done frames first then =
      subst (λ (s : S). Chain Step ys s new (done ++ frames)) first.0 (subst (λ (l : List ℕ). Chain Step ys mid new (l ++ frames)) (sym first.1) then)
  chain_both (x ∷ xs) ys old mid new done frames first then = (
    first.0,
    first.1,
    first.2 ++ frames,
    first.3,
    chain_both xs ys first.0 mid new first.2 frames first.4 then,
    ap (λ (l : List ℕ). l ++ frames) first.5 ∙ append_assoc first.1 first.2 frames,
  )

  -- the steps of one batch more
  pub chain_batch : {B : Type 0} (steps : B → List X) (batches : List B) (batch : B) (old mid new : S) (done frames : List ℕ) → Chain Step (flat_map steps batches) old mid done → Chain Step (steps batch) mid new frames
      → Chain Step (flat_map steps (batches ++ batch ∷ [])) old new (done ++ frames)
  chain_batch steps batches batch old mid new done frames before now =
      subst (λ (xs : List X). Chain Step xs old new (done ++ frames)) (flat_map_more steps [] batches batch) (chain_both (flat_map steps batches) (steps batch) old mid new done frames before now)

-- one more of the same
pub replicate_more : {X : Type 0} (n : ℕ) (x : X) → replicate n x ++ x ∷ [] ≡ replicate (suc n) x
replicate_more zero x = refl
replicate_more (suc n) x = ap (λ l. x ∷ l) (replicate_more n x)

module _ {D Z : Type 0} (state : D → DiskState) where
  -- of all calls these are to be made still
  abbrev pub MadeBefore : List (Waiting Z) → List (Waiting Z) → List ℕ → HubView D → HubView D → List (Waiting Z) → Type 0
  MadeBefore all rest done old mid kept = (new : HubView D) (later : List (Waiting Z)) (others : List ℕ) → AreMade state rest mid new later others → AreMade state all old new (kept ++ later) (done ++ others)

  pub made_more : (all rest : List (Waiting Z)) (done : List ℕ) (old mid next : HubView D) (kept : List (Waiting Z)) (w : Waiting Z) (o : Outcome Z)
      → MadeBefore all (w ∷ rest) done old mid kept → IsStep state mid next w.event o
      → MadeBefore all rest (done ++ outcome_frames (is_suspended o.reply) w.tag o) old next (kept ++ kept_of (is_suspended o.reply) w)
  made_more all rest done old mid next kept w o before step = λ new later others made.
      let k : List (Waiting Z) = kept_of (is_suspended o.reply) w in
      let f : List ℕ = outcome_frames (is_suspended o.reply) w.tag o in
      subst (λ (l : List (Waiting Z)). AreMade state all old new l ((done ++ f) ++ others)) (sym (append_assoc kept k later))
      (subst (λ (l : List ℕ). AreMade state all old new (kept ++ (k ++ later)) l) (sym (append_assoc done f others))
      (before new (k ++ later) (f ++ others) (o, next, later, others, step, made, refl, refl)))

  pub made_all : (all : List (Waiting Z)) (done : List ℕ) (old new : HubView D) (kept : List (Waiting Z)) → MadeBefore all [] done old new kept → AreMade state all old new kept done
  made_all all done old new kept before =
      subst (λ (l : List (Waiting Z)). AreMade state all old new l done) (append-nil kept)
      (subst (λ (l : List ℕ). AreMade state all old new (kept ++ []) l) (append-nil done) (before new [] [] (refl, refl, refl)))

-- a list that is its own tail has nothing in it
pub nil_if : {X : Type 0} (xs : List X) → xs ≡ drop 1 xs → xs ≡ []
nil_if [] e = refl
nil_if (x ∷ xs) e = let len = ap length e in absurd (omega (arith, len))
