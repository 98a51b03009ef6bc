-- The first byte of a text that is a given one.
use Rattle.std.proofs.Common.{◌≡◌, ℕ, ◌==◌, Bool, true, false, Option, Some, None, List, length, cond, nat_lt, refl, sym, ap, ◌∙◌, arith}
use Rattle.std.specs.List.{position, position_or_len}
use Rattle.std.proofs.lemmas.Bool.{lt-ltb, le-ltb}
use Rattle.std.proofs.lemmas.List.Sums.{position_or_len_is}
use Rattle.memchr.specs.Find.{IsFirstByte, is_byte}

pub is_false : (b : Bool) → (b ≡ true → ⊥) → b ≡ false
is_false true differs = absurd (differs refl)
is_false false differs = refl

position_at : (p : ℕ → Bool) (hay : List ℕ) (k : ℕ) (b : Bool) → position_or_len p hay ≡ k → nat_lt k (length hay) ≡ b → position p hay ≡ cond b (Some k) None
position_at p hay k b at within =
    ap (λ (m : ℕ). cond (nat_lt m (length hay)) (Some m) None) at ∙ ap (λ (c : Bool). cond c (Some k) None) within

-- what a search answers is the position
pub is_position : (n : ℕ) (hay : List ℕ) (r : Option ℕ) → IsFirstByte (is_byte n) hay r → r ≡ position (λ b. b == n) hay
is_position n hay None h =
    let at : position_or_len (λ b. b == n) hay ≡ length hay =
    position_or_len_is (λ b. b == n) hay (length hay) 0 (omega arith) (λ k below. is_false _ (h k (omega arith) below)) (λ past. absurd (omega (arith, past))) in
    sym (position_at (λ b. b == n) hay (length hay) false at (le-ltb (length hay) (length hay) (omega arith)))
is_position n hay (Some k) h =
    let at : position_or_len (λ b. b == n) hay ≡ k =
    position_or_len_is (λ b. b == n) hay k 0 (omega (arith, h.0.high)) (λ j below. is_false _ (h.0.before j (omega arith) below)) (λ within. h.1) in
    sym (position_at (λ b. b == n) hay k true at (lt-ltb k (length hay) h.0.high))
