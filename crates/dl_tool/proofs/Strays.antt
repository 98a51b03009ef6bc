-- The strays of a list of files.
use Rattle.std.proofs.Common.{◌≡◌, ◌⊎◌, inl, inr, ℕ, List, [], ◌∷◌, ◌++◌, Bool, true, false, cond, Option, Some, Result, IsTrue, refl, sym, ◌∙◌, ap, subst, arith, ◌↔◌, not, filter, IsSome}
use Rattle.dl_tool.proofs.Words.{ArePicked, Base, CheckFault, Contains, Content, DiskState, Entry, FileName, index_of, IsNamed, Named, ReadsLog, same_base}
use Rattle.std.specs.FinMap as map
use Rattle.std.proofs.lemmas.List.Elements.{Contains-append_left, Contains-append_right, Contains-append_cases}
use Rattle.dl_types.specs.declared.file.Part.{Part}
use Rattle.dl_types.specs.declared.file.Part.TheVariants as part
use Rattle.dl_disk.specs.Disk.{IsUncounted}
use Rattle.dl_disk.proofs.Acts.{acts_later}
use Rattle.dl_index.specs.declared.entry.Limits.{Limits}
use Rattle.dl_index.specs.IndexText.{IsIndex}
use Rattle.dl_log.proofs.Stored.{index_once}
use Rattle.dl_tool.specs.declared.named.Known.{Known}
use Rattle.dl_tool.specs.declared.named.Named.TheVariants as named
use Rattle.dl_tool.specs.Named.{leaves_out, names_number, IsLeftOut, Knows, LeavesOut}
use Rattle.dl_tool.specs.Reads.{OnlyReads}
use Rattle.dl_tool.specs.Stray.{AreStrays, AreStraysOf}
use Rattle.dl_tool.proofs.Begins.{own_from, own_to}
use Rattle.dl_tool.proofs.Logs.{one_of, the_one}
use Rattle.std.proofs.lemmas.Bool.{not-true}

-- ---- what an index names

not_is : (v : Bool) → v ≡ false → not v ≡ true
not_is true h = sym h
not_is false h = refl

index_left : (text : List ℕ) (limits : Limits) (entries : List Entry) (n : ℕ) → IsIndex text limits entries → not (names_number n entries) ≡ true ↔ LeavesOut (Some text) n
index_left text limits entries n is = (
  (λ h. (limits, entries, is, not-true (names_number n entries) h)),
  (λ left. let same = (index_once text limits left.0 entries left.1 is left.2).1 in not_is (names_number n entries) (ap (names_number n) same ∙ left.3)),
)

none_left : (text : List ℕ) (n : ℕ) → ((limits : Limits) (entries : List Entry) → IsIndex text limits entries → ⊥) → false ≡ true ↔ LeavesOut (Some text) n
none_left text n none = ((λ h. let bad : ⊥ = cc in absurd bad), (λ left. absurd (none left.0 left.1 left.2)))

-- by what is known, a number is left out exactly if no file of it is named
pub left_out : {Z : Type 0} (there : Option (List ℕ)) (k : Named Z) (n : ℕ) → IsNamed there k → leaves_out k n ≡ true ↔ LeavesOut there n
left_out there named.Nothing n is = subst (λ (o : Option (List ℕ)). true ≡ true ↔ LeavesOut o n) (sym is) ((λ h. tt), (λ u. refl))
left_out there named.NoIndex n is = subst (λ (o : Option (List ℕ)). false ≡ true ↔ LeavesOut o n) (sym is.1) (none_left is.0 n is.2)
left_out there (named.Index i) n is = subst (λ (o : Option (List ℕ)). not (names_number n i.entries) ≡ true ↔ LeavesOut o n) (sym is.1) (index_left is.0 i.limits i.entries n is.2)

-- ---- the strays of names, and of one more

module _ (content : Content) where
  abbrev Left : FileName → Type 0
  Left f = IsLeftOut (index_of content f.base) f.part

  one_from : (b : Bool) (x f : FileName) → (b ≡ true ↔ Left x) → Contains (cond b (x ∷ []) []) f → (x ≡ f) × Left f
  one_from true x f is has = let same = the_one x f has in (same, subst Left same (is.0 refl))
  one_from false x f is has = absurd (omega (arith, has.1))

  one_to : (b : Bool) (x : FileName) → (b ≡ true ↔ Left x) → Left x → Contains (cond b (x ∷ []) []) x
  one_to true x is left = one_of x
  one_to false x is left = let never = is.1 left in let bad : ⊥ = cc in absurd bad

  module _ (names files : List FileName) (x : FileName) (b : Bool) (is : b ≡ true ↔ Left x) (picked : ArePicked content names files) where
    from : (f : FileName) → (Contains files f ⊎ Contains (cond b (x ∷ []) []) f) → Contains (names ++ x ∷ []) f × Left f
    from f (inl had) = let p = (picked f).0 had in (Contains-append_left names (x ∷ []) f p.0, p.1)
    from f (inr one) =
        let p = one_from b x f is one in
        (Contains-append_right names (x ∷ []) f (subst (λ (g : FileName). Contains (x ∷ []) g) p.0 (one_of x)), p.1)

    to : (f : FileName) → Left f → (Contains names f ⊎ Contains (x ∷ []) f) → Contains (files ++ cond b (x ∷ []) []) f
    to f left (inl had) = Contains-append_left files (cond b (x ∷ []) []) f ((picked f).1 (had, left))
    to f left (inr one) =
        let same = the_one x f one in
        Contains-append_right files (cond b (x ∷ []) []) f (subst (λ (g : FileName). Contains (cond b (x ∷ []) []) g) same (one_to b x is (subst Left (sym same) left)))

    pub picked_more : ArePicked content (names ++ x ∷ []) (files ++ cond b (x ∷ []) [])
    picked_more f = ((λ has. from f (Contains-append_cases files (cond b (x ∷ []) []) f has)), (λ p. to f p.1 (Contains-append_cases names (x ∷ []) f p.0)))

  pub picked_none : ArePicked content [] []
  picked_none f = ((λ has. absurd (omega (arith, has.1))), (λ p. p.0))

  pub strays_are : (names files : List FileName) → ((f : FileName) → Contains names f ↔ IsSome (map.get content f)) → ArePicked content names files → AreStrays content files
  strays_are names files listed picked f =
      ((λ has. let p = (picked f).0 has in record { there = (listed f).0 p.0; unnamed = p.1 }), (λ s. (picked f).1 ((listed f).1 s.there, s.unnamed)))

  pub strays_of : (base : Base) (names files : List FileName) → ((f : FileName) → Contains names f ↔ IsSome (map.get content f)) → ArePicked content (filter (λ f. same_base f.base base) names) files → AreStraysOf content base files
  strays_of base names files listed picked f = (
    (λ has.
        let p = (picked f).0 has in
        let own = own_from base names f p.0 in
        (own.1, record { there = (listed f).0 own.0; unnamed = p.1 })),
    (λ s. (picked f).1 (own_to base names f ((listed f).1 s.1.there) s.0, s.1.unnamed)),
  )

-- ---- what the reading does to a disk

pub only_none : (a : DiskState) → OnlyReads a a
only_none a = record { later = λ b. omega arith; stayed = λ h. h; same = λ h. refl }

pub only_then : (a b c : DiskState) → OnlyReads a b → OnlyReads b c → OnlyReads a c
only_then a b c one two = record {
  later = λ d. omega (arith, one.later d, two.later d);
  stayed = λ h. one.stayed (two.stayed h);
  same = λ h. two.same h ∙ one.same (two.stayed h);
}

-- a list of names is read
pub only_uncounted : (a b : DiskState) → IsUncounted a b → (IsTrue b.honest → b.content ≡ a.content) → OnlyReads a b
only_uncounted a b one same = record { later = λ d. omega (arith, one.counts d); stayed = one.stayed; same = same }

-- so are files of one base
pub only_log : {T : Type 0} (base : Base) (a b : DiskState) (r : Result T CheckFault) → ReadsLog base a b r → OnlyReads a b
only_log base a b r reads = record { later = acts_later base a b reads.acts; stayed = reads.acts.stayed; same = reads.same }

-- ---- one file

-- a numbered file, by what is known of the index of its base
pub judged_left : {Z : Type 0} (content : Content) (base : Base) (p : Part) (n : ℕ) (k : Known Z) (b : Bool) → p ≡ part.Numbered n → k.base ≡ base → Knows content k → b ≡ leaves_out k.named n → b ≡ true ↔ IsLeftOut (index_of content base) p
judged_left content base p n k b is at knows found =
    let one = left_out (index_of content base) k.named n (subst (λ (d : Base). IsNamed (index_of content d) k.named) at knows) in
    subst (λ (q : Part). b ≡ true ↔ IsLeftOut (index_of content base) q) (sym is) (subst (λ (v : Bool). v ≡ true ↔ LeavesOut (index_of content base) n) (sym found) one)
