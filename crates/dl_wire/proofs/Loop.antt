-- Reading parts one after another, as a loop does.
use Rattle.std.proofs.Common.{◌≡◌, ℕ, suc, ◌-◌, ◌+◌, ◌≤◌, ◌<◌, List, [], ◌∷◌, ◌++◌, Ok, Err, refl, sym, ap, ◌∙◌, append_assoc, arith}
use Rattle.std.proofs.lemmas.List.{append-nil}
use Rattle.dl_wire.specs.declared.fault.ReadFault.{ReadFault}
use Rattle.dl_wire.specs.declared.fault.ReadFault.TheVariants as fault
use Rattle.dl_wire.specs.Reading.{Read, ◌>>=◌, Fails, many_at}

module _ {X : Type 0} where
  -- what was read before, and what is still read
  abbrev pub with_front : List X → Read (List X) → Read (List X)
  with_front front read = read >>= λ x. Ok (front ++ x.0, x.1)

  regroup : (front : List X) (part : X) (read : Read (List X)) → with_front front (read >>= λ x. Ok (part ∷ x.0, x.1)) ≡ with_front (front ++ part ∷ []) read
  regroup front part (Ok x) = ap (λ (parts : List X). Ok (parts, x.1)) (simp append_assoc)
  regroup front part (Err left) = refl

module _ {X : Type 0} (part_at : List ℕ → Read X) where
  pub goes_on : (front : List X) (count i : ℕ) (bytes : List ℕ) (part : X) (after : List ℕ) (total : Read (List X)) → i < count → part_at bytes ≡ Ok (part, after)
      → with_front front (many_at part_at (count - i) bytes) ≡ total → with_front (front ++ part ∷ []) (many_at part_at (count - (i + 1)) after) ≡ total
  unfolding many_at
  goes_on front count i bytes part after total lt h so_far =
      let k : count - i ≡ suc (count - (i + 1)) = omega arith in
      let one : with_front front (many_at part_at (count - i) bytes) ≡ with_front (front ++ part ∷ []) (many_at part_at (count - (i + 1)) after) = rw (k, h) (regroup front part (many_at part_at (count - (i + 1)) after)) in
      sym one ∙ so_far

  pub ends : (e : ReadFault) (front : List X) (count i : ℕ) (bytes : List ℕ) (total : Read (List X)) → i < count → Fails e (part_at bytes)
      → with_front front (many_at part_at (count - i) bytes) ≡ total → Fails e total
  unfolding many_at
  ends fault.OutOfMemory front count i bytes total lt h so_far = tt
  ends (fault.Left left) front count i bytes total lt h so_far =
      let k : count - i ≡ suc (count - (i + 1)) = omega arith in
      let one : with_front front (many_at part_at (count - i) bytes) ≡ Err left = rw (k, h) refl in
      sym so_far ∙ one

  pub is_done : (front : List X) (count i : ℕ) (bytes : List ℕ) (total : Read (List X)) → count ≤ i → with_front front (many_at part_at (count - i) bytes) ≡ total → total ≡ Ok (front, bytes)
  unfolding many_at
  is_done front count i bytes total le so_far =
      let k : count - i ≡ 0 = omega arith in
      let one : with_front front (many_at part_at (count - i) bytes) ≡ Ok (front, bytes) = rw k (ap (λ (parts : List X). Ok (parts, bytes)) (append-nil front)) in
      sym so_far ∙ one
