-- Files of a set that pass a test, by the place of the first of them; and files that are found by their bases.
use Rattle.std.proofs.Common.{◌≡◌, ◌≤◌, ◌<◌, ◌+◌, ℕ, List, [], ◌∷◌, length, get_or, Bool, true, false, ◌||◌, ◌&&◌, cond, not, suc, Option, Some, None, refl, sym, ◌∙◌, ap, subst, arith}
use Rattle.std.specs.Prelude.{position, nat_lt}
use Rattle.std.specs.List.{position_or_len, list_any}
use Rattle.indexmap.specs.IndexMap.{get}
use Rattle.indexmap.specs.IndexSet.{IndexSet, contains}
use Rattle.std.proofs.lemmas.Bool.Decides.{nat_tests}
use Rattle.dl_types.specs.declared.file.FileName.{FileName}
use Rattle.dl_types.specs.contracts.file.FileNamePartialEq.TheImpl.{ghosts as file_ghosts}
use Rattle.dl_types.specs.declared.name.Base.{Base}
use Rattle.dl_types.specs.Name.{same_base}
use Rattle.dl_types.proofs.Keys.{base_decides, file_eq_decides}
use Rattle.dl_disk.specs.declared.folder.by_base.FilesByBase.{FilesByBase}
use Rattle.dl_disk.specs.Owed.{has_file, is_beside, is_known}

abbrev pub eq : FileName → FileName → Bool
eq = file_ghosts.eq

or_right : (b c : Bool) → c ≡ true → (b || c) ≡ true
or_right true c is = refl
or_right false c is = is

module _ (t : FileName → Bool) where
  -- where no file passes, one that would is not in the set
  pub none_past : (ks : List FileName) → length ks ≤ position_or_len t ks → (k : FileName) → t k ≡ true → list_any (eq k) ks ≡ false
  none_past [] past k is = refl
  none_past (x ∷ xs) past k is = by (t x) refl past (λ le. none_past xs le k is)
    where
      same : (c : Bool) → eq k x ≡ c → t x ≡ false → list_any (eq k) xs ≡ false → (c || list_any (eq k) xs) ≡ false
      same true e not_x rest = let clash : true ≡ false = sym is ∙ ap t ((file_eq_decides k x).0 e) ∙ not_x in cc
      same false e not_x rest = rest

      by : (b : Bool) → t x ≡ b → length (x ∷ xs) ≤ cond (not b) (1 + position_or_len t xs) 0 → (length xs ≤ position_or_len t xs → list_any (eq k) xs ≡ false)
          → list_any (eq k) (x ∷ xs) ≡ false
      by true e le later = let none : ⊥ = omega (arith, le) in elim none [ ]
      by false e le later = same (eq k x) refl e (later (omega (arith, le)))

  -- the file at the place of the first that passes is in the set and passes
  abbrev pub IsFound : List FileName → FileName → Type 0
  IsFound ks k = (t k ≡ true) × (list_any (eq k) ks ≡ true)

  pub first_found : (ks : List FileName) (d : FileName) → position_or_len t ks < length ks → IsFound ks (get_or ks (position_or_len t ks) d)
  first_found [] d lt = let none : ⊥ = omega (arith, lt) in elim none [ ]
  first_found (x ∷ xs) d lt = by (t x) refl lt (first_found xs d)
    where
      by : (b : Bool) → t x ≡ b → cond (not b) (1 + position_or_len t xs) 0 < length (x ∷ xs)
          → (position_or_len t xs < length xs → IsFound xs (get_or xs (position_or_len t xs) d))
          → IsFound (x ∷ xs) (get_or (x ∷ xs) (cond (not b) (1 + position_or_len t xs) 0) d)
      by true e lt later = (e, ap (λ b. b || list_any (eq x) xs) ((file_eq_decides x x).1 refl))
      by false e lt later =
          let next : 1 + position_or_len t xs ≡ suc (position_or_len t xs) = omega arith in
          let rest = later (omega (arith, lt)) in
          subst (λ (n : ℕ). IsFound (x ∷ xs) (get_or (x ∷ xs) n d)) (sym next) (rest.0, or_right (eq (get_or xs (position_or_len t xs) d) x) _ rest.1)

  pub found_at : (ks : List FileName) (at : ℕ) (d : FileName) → Some at ≡ position t ks → IsFound ks (get_or ks at d)
  found_at ks at d is = by (nat_lt (position_or_len t ks) (length ks)) refl is
    where
      by : (b : Bool) → nat_lt (position_or_len t ks) (length ks) ≡ b → Some at ≡ cond b (Some (position_or_len t ks)) None → IsFound ks (get_or ks at d)
      by true test e =
          let same : at ≡ position_or_len t ks = cc in
          let below : position_or_len t ks < length ks = grind (arith, nat_tests) in
          subst (λ (n : ℕ). IsFound ks (get_or ks n d)) (sym same) (first_found ks d below)
      by false test e = cc

  pub none_found : (ks : List FileName) → None ≡ position t ks → (k : FileName) → t k ≡ true → list_any (eq k) ks ≡ false
  none_found ks is = by (nat_lt (position_or_len t ks) (length ks)) refl is
    where
      by : (b : Bool) → nat_lt (position_or_len t ks) (length ks) ≡ b → None ≡ cond b (Some (position_or_len t ks)) None → (k : FileName) → t k ≡ true → list_any (eq k) ks ≡ false
      by true test e = cc
      by false test e = let past : length ks ≤ position_or_len t ks = grind (arith, nat_tests) in none_past ks past

left_of : (b c : Bool) → (b && c) ≡ true → b ≡ true
left_of true c is = refl
left_of false c is = is

-- a file beside another has its base
pub base_beside : (file other : FileName) → is_beside file other ≡ true → other.base ≡ file.base
base_beside file other is = (base_decides other.base file.base).0 (left_of _ _ is)

-- a file is looked for among those of the base that it has
pub known_under : (files : FilesByBase) (base : Base) (other : FileName) → other.base ≡ base → has_file files other ≡ is_known (get same_base files.bases base) other
known_under files base other e = ap (λ (b : Base). is_known (get same_base files.bases b) other) e

module _ {S : Type 0} (file other : FileName) (old new : Base → Option (IndexSet FileName S)) (set set' : IndexSet FileName S) where
  -- where a file is taken out of those of its base, no other comes to be known
  pub stays_unknown : Some set ≡ old file.base → ((b : Base) → new b ≡ cond (same_base file.base b) (Some set') (old b))
      → ((k : FileName) → contains eq set' k ≡ cond (eq file k) false (contains eq set k))
      → is_known (old other.base) other ≡ false → is_known (new other.base) other ≡ false
  stays_unknown there put gone unknown = by (same_base file.base other.base) refl
    where
      at_test : (t : Bool) → same_base file.base other.base ≡ t → new other.base ≡ cond t (Some set') (old other.base)
      at_test t e = put other.base ∙ ap (λ u. cond u (Some set') (old other.base)) e

      taken : (t b : Bool) → b ≡ false → cond t false b ≡ false
      taken true b e = refl
      taken false b e = e

      by : (t : Bool) → same_base file.base other.base ≡ t → is_known (new other.base) other ≡ false
      by true e =
          let here : Some set ≡ old other.base = there ∙ ap old ((base_decides file.base other.base).0 e) in
          let was : contains eq set other ≡ false = ap (λ (o : Option (IndexSet FileName S)). is_known o other) here ∙ unknown in
          ap (λ (o : Option (IndexSet FileName S)). is_known o other) (at_test true e) ∙ gone other ∙ taken (eq file other) _ was
      by false e = ap (λ (o : Option (IndexSet FileName S)). is_known o other) (at_test false e) ∙ unknown
