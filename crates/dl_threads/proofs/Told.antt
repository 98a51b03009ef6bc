-- What was told of a script.
use Rattle.std.proofs.Common.{◌≡◌, Bool, true, false, Result, Ok, Err}

pub contrary : (b : Bool) → b ≡ true → b ≡ false → ⊥
contrary true is not = let bad : ⊥ = cc in bad
contrary false is not = let bad : ⊥ = cc in bad

abbrev pub settled_in : {E : Type 0} → Result Bool E → Bool
settled_in (Ok settled) = settled
settled_in (Err fault) = false
