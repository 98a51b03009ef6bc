-- The files in the way of a log, by a list of all files.
use Rattle.std.proofs.Common.{◌≡◌, ◌⊎◌, inl, inr, ℕ, List, [], ◌∷◌, Bool, true, false, cond, ◌||◌, Option, Some, None, refl, sym, ◌∙◌, ap, subst, arith, ◌↔◌, filter, IsSome}
use Rattle.dl_tool.proofs.Words.{Base, Contains, Content, FileName, list_any, LogFiles, main_file, same_base}
use Rattle.std.specs.FinMap as map
use Rattle.std.proofs.lemmas.List.Elements.{Contains-append_left, Contains-append_right, Contains-append_cases}
use Rattle.dl_types.specs.contracts.file.FileNamePartialEq.TheImpl.{ghosts as file_ghosts}
use Rattle.dl_types.proofs.Keys.{base_decides, file_eq_decides}
use Rattle.dl_tool.specs.Begin.{AreInWay}
use Rattle.dl_tool.proofs.Logs.{one_of, the_one}

-- ---- a list that has a file has one that is equal to it

any_to : (names : List FileName) (f : FileName) → Contains names f → list_any (λ x. file_ghosts.eq x f) names ≡ true
any_to [] f has = absurd (omega (arith, has.1))
any_to (x ∷ xs) f has = by (any_to xs f) (Contains-append_cases (x ∷ []) xs f has)
  where
    or_true : (b : Bool) → (b || true) ≡ true
    or_true true = refl
    or_true false = refl

    by : (Contains xs f → list_any (λ y. file_ghosts.eq y f) xs ≡ true) → (Contains (x ∷ []) f ⊎ Contains xs f) → (file_ghosts.eq x f || list_any (λ y. file_ghosts.eq y f) xs) ≡ true
    by known (inl one) = ap (λ b. b || list_any (λ y. file_ghosts.eq y f) xs) ((file_eq_decides x f).1 (the_one x f one))
    by known (inr had) = ap (λ b. file_ghosts.eq x f || b) (known had) ∙ or_true (file_ghosts.eq x f)

-- ---- the files of a base

abbrev is_own : Base → FileName → Bool
is_own base f = same_base f.base base

pub own_from : (base : Base) (names : List FileName) (f : FileName) → Contains (filter (is_own base) names) f → Contains names f × f.base ≡ base
own_from base [] f has = absurd (omega (arith, has.1))
own_from base (x ∷ xs) f has = by (own_from base xs f) (is_own base x) refl has
  where
    more : Contains xs f × f.base ≡ base → Contains (x ∷ xs) f × f.base ≡ base
    more p = (Contains-append_right (x ∷ []) xs f p.0, p.1)

    pick : (Contains (filter (is_own base) xs) f → Contains xs f × f.base ≡ base) → is_own base x ≡ true → (Contains (x ∷ []) f ⊎ Contains (filter (is_own base) xs) f) → Contains (x ∷ xs) f × f.base ≡ base
    pick known own (inl one) =
        let same = the_one x f one in
        subst (λ (g : FileName). Contains (x ∷ xs) g × g.base ≡ base) same (Contains-append_left (x ∷ []) xs x (one_of x), (base_decides x.base base).0 own)
    pick known own (inr had) = more (known had)

    by : (Contains (filter (is_own base) xs) f → Contains xs f × f.base ≡ base) → (b : Bool) → is_own base x ≡ b → Contains (cond b (x ∷ filter (is_own base) xs) (filter (is_own base) xs)) f → Contains (x ∷ xs) f × f.base ≡ base
    by known true own h = pick known own (Contains-append_cases (x ∷ []) (filter (is_own base) xs) f h)
    by known false own h = more (known h)

pub own_to : (base : Base) (names : List FileName) (f : FileName) → Contains names f → f.base ≡ base → Contains (filter (is_own base) names) f
own_to base [] f has own = absurd (omega (arith, has.1))
own_to base (x ∷ xs) f has own = by (λ had. own_to base xs f had own) (Contains-append_cases (x ∷ []) xs f has)
  where
    later : (b : Bool) → Contains (filter (is_own base) xs) f → Contains (cond b (x ∷ filter (is_own base) xs) (filter (is_own base) xs)) f
    later true had = Contains-append_right (x ∷ []) (filter (is_own base) xs) f had
    later false had = had

    here : x ≡ f → Contains (filter (is_own base) (x ∷ xs)) f
    here same =
        subst (λ b. Contains (cond b (x ∷ filter (is_own base) xs) (filter (is_own base) xs)) f) (sym ((base_decides x.base base).1 (ap (λ (g : FileName). g.base) same ∙ own)))
        (Contains-append_left (x ∷ []) (filter (is_own base) xs) f (subst (λ (g : FileName). Contains (x ∷ []) g) same (one_of x)))

    by : (Contains xs f → Contains (filter (is_own base) xs) f) → (Contains (x ∷ []) f ⊎ Contains xs f) → Contains (filter (is_own base) (x ∷ xs)) f
    by known (inl one) = here (the_one x f one)
    by known (inr had) = later (is_own base x) (known had)

-- ---- the files in the way, by a list of all files

module _ (content : Content) (log : LogFiles) (names : List FileName) (listed : (f : FileName) → Contains names f ↔ IsSome (map.get content f)) where
  none_there : (o : Option (List ℕ)) → (IsSome o → ⊥) → o ≡ None
  none_there None absent = refl
  none_there (Some text) absent = absurd (absent refl)

  pub own_in_way : list_any (λ x. file_ghosts.eq x (main_file log)) names ≡ false → AreInWay content log (filter (λ f. same_base f.base log.base) names)
  own_in_way absent f = (
    (λ has. let p = own_from log.base names f has in record {
      begun = none_there (map.get content (main_file log)) (λ there. let now = any_to names (main_file log) ((listed (main_file log)).1 there) in cc);
      named = p.1;
      there = (listed f).0 p.0;
    }),
    (λ w. own_to log.base names f ((listed f).1 w.there) w.named),
  )
