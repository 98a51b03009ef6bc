-- What the calls of a disk do to its files and to its counts of faults.
use Rattle.std.specs.Prelude.{⊤, ◌≡◌, ◌≢◌, ℕ, ◌+◌, ◌<◌, ◌≤◌, ◌^◌, ◌⊎◌, List, [], ◌++◌, Bool, IsTrue, take, drop, length, slice_index_or, unwrap_or, Option, Some, None, Result, IsOk, IsErr}
use Rattle.std.specs.FinMap as map
use Rattle.dl_types.specs.declared.name.Base.{Base}
use Rattle.dl_types.specs.declared.file.FileName.{FileName}
use Rattle.dl_types.specs.FileName.{Content}

-- the files that are there with their bytes; whether all that was read so far was what had been written; the faults so far, by base;
-- and which bases have a count of faults
pub record DiskState : Type 0 where
  pub content : Content
  pub honest : Bool
  pub faults : Base → ℕ
  pub known : Base → Bool

-- a count went up, or is the greatest number and cannot go up
abbrev pub Rises : ℕ → ℕ → Type 0
Rises old new = (old < new) ⊎ (2 ^ 64 ≤ new + 1)

-- a count that did not go up, and would have if there had been a fault, since it is below the greatest number
pub record IsQuiet (old new : ℕ) : Type 0 where
  pub same : new ≡ old
  pub seen : new + 1 < 2 ^ 64

-- one call on a file of this base: a fault is counted under this base, a success under none, and nothing under another base
pub record Counts {T E : Type 0} (base : Base) (old new : Base → ℕ) (result : Result T E) : Type 0 where
  pub later : old base ≤ new base
  pub fault : IsErr result → Rises (old base) (new base)
  pub calm : IsOk result → new base ≡ old base
  pub others : (b : Base) → b ≢ base → new b ≡ old b

-- what each call on files of one base leaves, whatever it answers
pub record IsCallOn {T E : Type 0} (base : Base) (old new : DiskState) (result : Result T E) : Type 0 where
  pub knows : (b : Base) → IsTrue (old.known b) → IsTrue (new.known b)
  pub counts : Counts base old.faults new.faults result
  pub stayed : IsTrue new.honest → IsTrue old.honest

-- what a call that counts no fault leaves
pub record IsUncounted (old new : DiskState) : Type 0 where
  pub knows : (b : Base) → IsTrue (old.known b) → IsTrue (new.known b)
  pub counts : (b : Base) → new.faults b ≡ old.faults b
  pub stayed : IsTrue new.honest → IsTrue old.honest

-- the bytes of a file, or none if there is no such file
abbrev pub text_at : Content → FileName → List ℕ
text_at content file = unwrap_or (map.get content file) []

-- the bytes with others in the place of a range, or after the end
abbrev pub written : List ℕ → ℕ → List ℕ → List ℕ
written old at bytes = take at old ++ bytes ++ drop (at + length bytes) old

-- after a write that failed: the same outside its range up to the old end, and anything past it
pub record Torn (old : List ℕ) (at n : ℕ) (new : List ℕ) : Type 0 where
  pub no_shorter : length old ≤ length new
  pub before : take at new ≡ take at old
  pub after : drop (at + n) (take (length old) new) ≡ drop (at + n) old

-- a file that does not exist still doesn't, and one that does is torn at most
abbrev pub TornAt : Option (List ℕ) → ℕ → ℕ → Option (List ℕ) → Type 0
TornAt None at n new = new ≡ None
TornAt (Some old) at n new = (text : List ℕ) × (new ≡ Some text) × Torn old at n text

-- there is no such file, or it has fewer bytes than this
abbrev pub IsShorter : Option (List ℕ) → ℕ → Type 0
IsShorter None end = ⊤
IsShorter (Some text) end = length text < end

-- no name is in the list twice
abbrev pub IsOnce : List FileName → Type 0
IsOnce names = (i j : ℕ) (d : FileName) → i < length names → j < length names → slice_index_or names i d ≡ slice_index_or names j d → i ≡ j
