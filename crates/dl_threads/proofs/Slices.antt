-- What is left of a list as a loop goes through it.
use Rattle.std.proofs.Common.{◌≡◌, ℕ, ◌+◌, ◌<◌, ◌≤◌, List, [], ◌∷◌, ◌++◌, map, length, get_or, drop, ap, sym, ◌∙◌, drop-cons, add-one, append_assoc, append-nil}
use Rattle.std.proofs.lemmas.List.{map-append, drop_all}

pub left_by : {X : Type 0} (xs : List X) (i : ℕ) (other x : X) → i < length xs → get_or xs i other ≡ x → drop i xs ≡ x ∷ drop (i + 1) xs
left_by xs i other x inside is = rw add-one (drop-cons xs i other inside) ∙ ap (λ y. y ∷ drop (i + 1) xs) is

pub left : {X : Type 0} (xs : List X) (i : ℕ) (x : X) → i < length xs → x ≡ get_or xs i x → drop i xs ≡ x ∷ drop (i + 1) xs
left xs i x inside is = left_by xs i x x inside (sym is)

-- what was made of the elements before a place, and the elements from there on, are all: one more
pub more : {X Y : Type 0} (f : X → Y) (ys : List Y) (i : ℕ) (other : Y) (xs pushed : List X) (x : X) → i < length ys → f x ≡ get_or ys i other → pushed ≡ xs ++ x ∷ [] → map f xs ++ drop i ys ≡ ys → map f pushed ++ drop (i + 1) ys ≡ ys
more f ys i other xs pushed x inside own is before =
    let owns : map f pushed ≡ map f xs ++ f x ∷ [] = ap (map f) is ∙ map-append f xs (x ∷ []) in
    ap (λ os. os ++ drop (i + 1) ys) owns ∙ (append_assoc (map f xs) (f x ∷ []) (drop (i + 1) ys) ∙ (ap (λ rest. map f xs ++ rest) (sym (left_by ys i other (f x) inside (sym own))) ∙ before))

-- and none is left
pub whole : {X Y : Type 0} (f : X → Y) (ys : List Y) (i : ℕ) (xs : List X) → length ys ≤ i → map f xs ++ drop i ys ≡ ys → map f xs ≡ ys
whole f ys i xs outside all = sym (append-nil (map f xs)) ∙ (ap (λ rest. map f xs ++ rest) (sym (drop_all i ys outside)) ∙ all)
