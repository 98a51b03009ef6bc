-- All is flushed, and once more.
use Rattle.std.proofs.Common.{◌≡◌, ◌≤◌, ◌+◌, ℕ, List, [], ◌∷◌, ◌++◌, All, false, Result, Ok, Err, IfOk, length, length-append, refl, arith}
use Rattle.std.proofs.lemmas.List.Elements.{All-append, All-cons, All-nil}
use Rattle.dl_disk.specs.Disk.{DiskState}
use Rattle.dl_hub.specs.declared.drained.TheConstants.{TRIES}
use Rattle.dl_serve.specs.declared.left.Left.{Left}
use Rattle.dl_serve.specs.Asked.{Stage, Chain}
use Rattle.dl_serve.specs.Left.{is_nothing}
use Rattle.dl_serve.specs.Serve.{IsAllFlushed, IsWrittenOut}
use Rattle.dl_serve.proofs.Chains.{chain_more}

-- what holds of the value of a result, and what follows from it
pub ok_then : {T E : Type 0} (r : Result T E) (P Q : T → Type 0) → IfOk r P → ((x : T) → P x → Q x) → IfOk r Q
ok_then (Ok x) P Q h f = f x h
ok_then (Err e) P Q h f = tt

module _ {D Z : Type 0} (state : D → DiskState) where
  -- before this try all was flushed by each one before it, the first of which has the number 1, and something was left
  pub record AreTried (tries : ℕ) (old mid : Stage D Z) (frames : List ℕ) : Type 0 where
    pub before : List Left
    pub flushed : Chain (IsAllFlushed state 0) before old mid frames
    pub some : All (λ (was : Left). is_nothing was ≡ false) before
    pub counted : length before + 1 ≡ tries

  pub tried_none : (stage : Stage D Z) → AreTried 1 stage stage []
  tried_none stage = record { before = []; flushed = (refl, refl); some = All-nil (λ (was : Left). is_nothing was ≡ false); counted = refl }

  -- one try more that left something
  pub tried_more : (tries : ℕ) (old mid new : Stage D Z) (done frames : List ℕ) (left : Left) → AreTried tries old mid done → IsAllFlushed state 0 left mid new frames → is_nothing left ≡ false → AreTried (tries + 1) old new (done ++ frames)
  tried_more tries old mid new done frames left so_far flushed more =
      let P : Left → Type 0 = λ (was : Left). is_nothing was ≡ false in
      record {
        before = so_far.before ++ left ∷ [];
        flushed = chain_more (IsAllFlushed state 0) so_far.before old mid new done left frames so_far.flushed flushed;
        some = All-append P so_far.before (left ∷ []) so_far.some (All-cons P left [] more (All-nil P));
        counted = omega (arith, length-append so_far.before (left ∷ []), so_far.counted);
      }

  -- the last try, which left nothing or is the last that may be made
  pub tried_last : (tries : ℕ) (old mid new : Stage D Z) (done frames : List ℕ) (left : Left) → AreTried tries old mid done → IsAllFlushed state 0 left mid new frames → tries ≤ TRIES → (is_nothing left ≡ false → TRIES ≤ tries) → IsWrittenOut state left old new (done ++ frames)
  tried_last tries old mid new done frames left so_far flushed within last = record {
    before = so_far.before;
    flushed = chain_more (IsAllFlushed state 0) so_far.before old mid new done left frames so_far.flushed flushed;
    some = so_far.some;
    within = omega (arith, so_far.counted, within);
    spent = λ more. let over = last more in omega (arith, so_far.counted, within, over);
  }
