-- Names and bases are read where they are written.
use Rattle.std.proofs.Common.{◌≡◌, ◌≤◌, ◌<◌, ◌^◌, ◌&&◌, ℕ, List, [], ◌∷◌, ◌++◌, true, false, cond, ltb, leb, length, take, drop, Ok, Err, refl, sym, ap, subst, ◌∙◌, arith, inl, inr}
use Rattle.std.specs.List.{list_all}
use Rattle.std.proofs.lemmas.Bool.{and_parts, and_from, ltb-true, leb-true, lt-ltb, le-leb, ltb-false, le-ltb, cases_Bool}
use Rattle.std.proofs.lemmas.List.{take_at, drop_at, take-append-drop, length-append, length-take}
use Rattle.std.proofs.lemmas.List.Sums.{AllPass-from_list_all, list_all-from_AllPass}
use Rattle.dl_types.specs.declared.limits.TheConstants.{NAME_LIMIT}
use Rattle.dl_types.specs.declared.name.Base.{Base}
use Rattle.dl_types.specs.declared.name.Name.{Name}
use Rattle.dl_types.specs.FileText.{IsBase}
use Rattle.dl_types.specs.Name.{is_name_byte, IsNameText, name_of, base_from, name_text, base_text}
use Rattle.dl_types.proofs.Texts.{unpadded_padded}
use Rattle.dl_wire.specs.Fits.{IsName}
use Rattle.dl_wire.specs.Parts.{short_text}
use Rattle.dl_wire.specs.Reading.{short_at, is_name_text, name_at, base_at}
use Rattle.dl_wire.proofs.Parts.{IsBytes, IsBytes-rest, IsBytes-drop, guard_ok, wanted_ok, ok_is, Takes, TakesAs, Reads, first_takes}

pub name_text_is : (text : List ℕ) → is_name_text text ≡ true → IsNameText text
name_text_is text e =
    let outer = and_parts (ltb 0 (length text) && leb (length text) NAME_LIMIT) (list_all is_name_byte text) e in
    let inner = and_parts (ltb 0 (length text)) (leb (length text) NAME_LIMIT) outer.0 in
    record {
      some = ltb-true 0 (length text) inner.0;
      short = leb-true (length text) NAME_LIMIT inner.1;
      plain = AllPass-from_list_all is_name_byte text outer.1;
    }

pub is_name_text_of : (text : List ℕ) → IsNameText text → is_name_text text ≡ true
is_name_text_of text is =
    and_from (ltb 0 (length text) && leb (length text) NAME_LIMIT) (list_all is_name_byte text)
    (and_from (ltb 0 (length text)) (leb (length text) NAME_LIMIT) (lt-ltb 0 (length text) is.some) (le-leb (length text) NAME_LIMIT is.short))
    (list_all-from_AllPass is_name_byte text is.plain)

-- ---- what a reader finds of a name

pub name_found : (bytes text rest : List ℕ) → short_at bytes ≡ Ok (text, rest) → IsNameText text → name_at bytes ≡ Ok (name_of text, rest)
unfolding name_at
name_found bytes text rest e is = rw (e, is_name_text_of text is) refl

pub name_missed : (bytes text rest : List ℕ) → short_at bytes ≡ Ok (text, rest) → (IsNameText text → ⊥) → name_at bytes ≡ Err (length bytes)
unfolding name_at
name_missed bytes text rest e never =
    elim (cases_Bool (is_name_text text)) [
      | inl is ↦ absurd (never (name_text_is text is))
      | inr is ↦ rw (e, is) refl
    ]

pub base_found : (bytes text rest : List ℕ) → short_at bytes ≡ Ok (text, rest) → IsNameText text → base_at bytes ≡ Ok (base_from text, rest)
unfolding base_at
base_found bytes text rest e is = rw (e, is_name_text_of text is) refl

pub base_missed : (bytes text rest : List ℕ) → short_at bytes ≡ Ok (text, rest) → (IsNameText text → ⊥) → base_at bytes ≡ Err (length bytes)
unfolding base_at
base_missed bytes text rest e never =
    elim (cases_Bool (is_name_text text)) [
      | inl is ↦ absurd (never (name_text_is text is))
      | inr is ↦ rw (e, is) refl
    ]

-- ---- texts

short_takes : (bytes : List ℕ) (x : List ℕ × List ℕ) → IsBytes bytes → short_at bytes ≡ Ok x → TakesAs short_text (λ text. length text < 2 ^ 8) bytes x
unfolding short_at
short_takes [] x fits e = absurd cc
short_takes (n ∷ bytes) x fits e =
    let g = guard_ok (ltb (length bytes) n) _ (Ok (take n bytes, drop n bytes)) x e in
    let long : n ≤ length bytes = ltb-false _ _ g.0 in
    let len : length (take n bytes) ≡ n = omega (arith, length-take n bytes) in
    let made : List ℕ × List ℕ = (take n bytes, drop n bytes) in
    let parts : n ∷ bytes ≡ short_text (take n bytes) ++ drop n bytes = (λ i. sym len i ∷ sym (take-append-drop n bytes) i) in
    subst (λ (y : List ℕ × List ℕ). TakesAs short_text (λ text. length text < 2 ^ 8) (n ∷ bytes) y) (ok_is made x g.1)
    (record { parts = parts; rest_fits = IsBytes-drop n bytes (IsBytes-rest n bytes fits) }, omega (arith, len, fits 0))

short_again : (text rest : List ℕ) → length text < 2 ^ 8 → short_at (short_text text ++ rest) ≡ Ok (text, rest)
unfolding short_at
short_again text rest lt =
    let long : ltb (length (text ++ rest)) (length text) ≡ false = le-ltb _ _ (omega (arith, length-append text rest)) in
    rw (long, take_at text rest (length text) refl, drop_at text rest (length text) refl) refl

reads_short : Reads short_at short_text (λ text. length text < 2 ^ 8)
reads_short = record { takes = short_takes; again = short_again }

-- ---- names and bases

name_takes : (bytes : List ℕ) (x : Name × List ℕ) → IsBytes bytes → name_at bytes ≡ Ok x → TakesAs (λ name. short_text (name_text name)) IsName bytes x
unfolding name_at
name_takes bytes x fits e =
    let p = first_takes reads_short (λ text. cond (is_name_text text.0) (Ok (name_of text.0, text.1)) (Err (length bytes))) bytes x fits e in
    let text : List ℕ = p.0.0 in
    let g = wanted_ok (is_name_text text) (length bytes) (Ok (name_of text, p.0.1)) x p.2 in
    let is = name_text_is text g.0 in
    let back : name_text (name_of text) ≡ text = unpadded_padded text is in
    let made : Name × List ℕ = (name_of text, p.0.1) in
    let whole : name_of text ≡ name_of (name_text (name_of text)) = ap name_of (sym back) in
    subst (λ (y : Name × List ℕ). TakesAs (λ name. short_text (name_text name)) IsName bytes y) (ok_is made x g.1)
    (subst (λ (t : List ℕ). Takes bytes (short_text t) p.0.1) (sym back) p.1.0, record { named = subst IsNameText (sym back) is; whole = whole })

name_again : (name : Name) (rest : List ℕ) → IsName name → name_at (short_text (name_text name) ++ rest) ≡ Ok (name, rest)
name_again name rest is =
    let short = is.named.short in
    name_found _ (name_text name) rest (short_again (name_text name) rest (omega (arith, short))) is.named ∙ ap (λ (n : Name). Ok (n, rest)) (sym is.whole)

pub reads_name : Reads name_at (λ name. short_text (name_text name)) IsName
reads_name = record { takes = name_takes; again = name_again }

base_takes : (bytes : List ℕ) (x : Base × List ℕ) → IsBytes bytes → base_at bytes ≡ Ok x → TakesAs (λ base. short_text (base_text base)) IsBase bytes x
unfolding base_at
base_takes bytes x fits e =
    let p = first_takes reads_short (λ text. cond (is_name_text text.0) (Ok (base_from text.0, text.1)) (Err (length bytes))) bytes x fits e in
    let text : List ℕ = p.0.0 in
    let g = wanted_ok (is_name_text text) (length bytes) (Ok (base_from text, p.0.1)) x p.2 in
    let is = name_text_is text g.0 in
    let back : base_text (base_from text) ≡ text = unpadded_padded text is in
    let made : Base × List ℕ = (base_from text, p.0.1) in
    let whole : base_from text ≡ base_from (base_text (base_from text)) = ap base_from (sym back) in
    subst (λ (y : Base × List ℕ). TakesAs (λ base. short_text (base_text base)) IsBase bytes y) (ok_is made x g.1)
    (subst (λ (t : List ℕ). Takes bytes (short_text t) p.0.1) (sym back) p.1.0, record { named = subst IsNameText (sym back) is; whole = whole })

base_again : (base : Base) (rest : List ℕ) → IsBase base → base_at (short_text (base_text base) ++ rest) ≡ Ok (base, rest)
base_again base rest is =
    let short = is.named.short in
    base_found _ (base_text base) rest (short_again (base_text base) rest (omega (arith, short))) is.named ∙ ap (λ (n : Base). Ok (n, rest)) (sym is.whole)

pub reads_base : Reads base_at (λ base. short_text (base_text base)) IsBase
reads_base = record { takes = base_takes; again = base_again }
