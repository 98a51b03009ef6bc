-- What a reader has left, and what was taken from it.
use Rattle.std.proofs.Common.{◌≡◌, ◌==◌, Bool, true, false, cond, ℕ, List, [], ◌∷◌, ◌++◌, Option, Some, None, refl, sym, ap, ◌∙◌, append_assoc, ◌⊎◌, inl, inr}
use Rattle.std.specs.List.{onto_first}
use Rattle.std.specs.Io.KnownBytes.{IsAtEnd}
use Rattle.dl_lines.specs.declared.lines.NextLine.{NextLine}
use Rattle.dl_lines.specs.declared.lines.NextLine.TheVariants.{Read, TooLong}
use Rattle.dl_lines.specs.Lines.{lines_of, HasLines, TakesLines, IsNextTooLong}

pub takes_nil : (a : Option (List ℕ)) → TakesLines a a []
takes_nil None = tt
takes_nil (Some text) = refl

pub takes_more : (a b c : Option (List ℕ)) (lines more : List (List ℕ)) → TakesLines a b lines → TakesLines b c more → TakesLines a c (lines ++ more)
takes_more None b c lines more p q = tt
takes_more (Some x) None c lines more p q = absurd p
takes_more (Some x) (Some y) None lines more p q = absurd q
takes_more (Some x) (Some y) (Some z) lines more p q = p ∙ ap (λ (l : List (List ℕ)). lines ++ l) q ∙ sym (append_assoc lines more (lines_of z))

pub has_all : (a b : Option (List ℕ)) (lines more : List (List ℕ)) → TakesLines a b lines → HasLines b more → HasLines a (lines ++ more)
has_all None b lines more p q = tt
has_all (Some x) None lines more p q = absurd p
has_all (Some x) (Some y) lines more p q = p ∙ ap (λ (l : List (List ℕ)). lines ++ l) q

-- what a reader has left are lines
pub has_some : (a : Option (List ℕ)) → (lines : List (List ℕ)) × HasLines a lines
has_some None = ([], tt)
has_some (Some text) = (lines_of text, refl)

pub has_next : (a b : Option (List ℕ)) (line : List ℕ) → TakesLines a b (line ∷ []) → (others : List (List ℕ)) × HasLines a (line ∷ others)
has_next None b line p = ([], tt)
has_next (Some x) None line p = absurd p
has_next (Some x) (Some y) line p = (lines_of y, p)

-- a line that is there, of any length
pub has_first : (limit : ℕ) (a b : Option (List ℕ)) (line : List ℕ) (next : NextLine) → (next ≡ Read) ⊎ (next ≡ TooLong) → (next ≡ Read → TakesLines a b (line ∷ [])) → (next ≡ TooLong → IsNextTooLong limit a)
    → (first : List ℕ) × (others : List (List ℕ)) × HasLines a (first ∷ others)
has_first limit a b line next (inl is) read long = let some = has_next a b line (read is) in (line, some.0, some.1)
has_first limit a b line next (inr is) read long = let some = long is in (some.0, some.1, some.2)

onto_some : (b : ℕ) (lines : List (List ℕ)) → onto_first b lines ≡ [] → ⊥
onto_some b [] none = cc
onto_some b (line ∷ lines) none = cc

some_case : (b : ℕ) (lines : List (List ℕ)) (feed : Bool) → cond feed ([] ∷ lines) (onto_first b lines) ≡ [] → ⊥
some_case b lines true none = cc
some_case b lines false none = onto_some b lines none

-- a reader with no line left has nothing left
pub none_left : (a : Option (List ℕ)) → HasLines a [] → IsAtEnd a
none_left None none = tt
none_left (Some []) none = refl
none_left (Some (b ∷ bytes)) none = let bad : ⊥ = some_case b (lines_of bytes) (b == 10) none in absurd bad
