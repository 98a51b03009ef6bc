-- Parts one after another, and names after their number, are read where they are written.
use Rattle.std.proofs.Common.{◌≡◌, ℕ, zero, suc, List, [], ◌∷◌, ◌++◌, length, Ok, refl, sym, ap, subst, ◌∙◌, append_assoc, arith}
use Rattle.std.specs.List.{flat_map, AllByRecursion}
use Rattle.std.proofs.lemmas.List.Concat.{flat_map-cons}
use Rattle.dl_types.specs.declared.name.Name.{Name}
use Rattle.dl_types.specs.Name.{name_text}
use Rattle.dl_wire.specs.Fits.{AreNames}
use Rattle.dl_wire.specs.Parts.{u32_text, short_text, list_text}
use Rattle.dl_wire.specs.Reading.{Read, ◌>>=◌, name_at, many_at, names_at}
use Rattle.dl_wire.proofs.Names.{reads_name}
use Rattle.dl_wire.proofs.Parts.{IsBytes, bind_ok, ok_is, Takes, Takes-then, TakesAs, Reads, reads_u32, first_takes, first_again}

module _ {X : Type 0} {part_at : List ℕ → Read X} {text : X → List ℕ} {Fits : X → Type 0} (reads : Reads part_at text Fits) where
  pub many_take : (n : ℕ) (bytes : List ℕ) (x : List X × List ℕ) → IsBytes bytes → many_at part_at n bytes ≡ Ok x
      → Takes bytes (flat_map text x.0) x.1 × (length x.0 ≡ n) × AllByRecursion Fits x.0
  unfolding many_at
  many_take zero bytes x fits e =
      subst (λ (y : List X × List ℕ). Takes bytes (flat_map text y.0) y.1 × (length y.0 ≡ 0) × AllByRecursion Fits y.0) (ok_is ([], bytes) x e) (record { parts = refl; rest_fits = fits }, refl, tt)
  many_take (suc n) bytes x fits e =
      let p = first_takes reads (λ first. many_at part_at n first.1 >>= λ others. Ok (first.0 ∷ others.0, others.1)) bytes x fits e in
      let q = bind_ok (many_at part_at n p.0.1) (λ others. Ok (p.0.0 ∷ others.0, others.1)) x p.2 in
      let second = many_take n p.0.1 q.0 p.1.0.rest_fits q.1 in
      let both = Takes-then bytes (text p.0.0) p.0.1 (flat_map text q.0.0) q.0.1 p.1.0 second.0 in
      let made : List X × List ℕ = (p.0.0 ∷ q.0.0, q.0.1) in
      subst (λ (y : List X × List ℕ). Takes bytes (flat_map text y.0) y.1 × (length y.0 ≡ suc n) × AllByRecursion Fits y.0) (ok_is made x q.2) (rw flat_map-cons both, ap suc second.1, (p.1.1, second.2))

  pub many_again : (parts : List X) (rest : List ℕ) → AllByRecursion Fits parts → many_at part_at (length parts) (flat_map text parts ++ rest) ≡ Ok (parts, rest)
  unfolding many_at
  many_again [] rest fits = refl
  many_again (part ∷ parts) rest fits =
      let regrouped : flat_map text (part ∷ parts) ++ rest ≡ text part ++ (flat_map text parts ++ rest) = ap (λ (x : List ℕ). x ++ rest) (flat_map-cons text part parts) ∙ append_assoc (text part) (flat_map text parts) rest in
      ap (many_at part_at (suc (length parts))) regrouped ∙ rw (reads.again part (flat_map text parts ++ rest) fits.0, many_again parts rest fits.1) refl

abbrev pub names_text : List Name → List ℕ
names_text names = list_text (λ name. short_text (name_text name)) names

names_take : (bytes : List ℕ) (x : List Name × List ℕ) → IsBytes bytes → names_at bytes ≡ Ok x → TakesAs names_text AreNames bytes x
unfolding names_at
names_take bytes x fits e =
    let p = first_takes reads_u32 (λ n. many_at name_at n.0 n.1) bytes x fits e in
    let second = many_take reads_name p.0.0 p.0.1 x p.1.0.rest_fits p.2 in
    let each : List ℕ = flat_map (λ name. short_text (name_text name)) x.0 in
    let both = Takes-then bytes (u32_text p.0.0) p.0.1 each x.1 p.1.0 second.0 in
    (subst (λ (k : ℕ). Takes bytes (u32_text k ++ each) x.1) (sym second.1) both, record { few = omega (arith, second.1, p.1.1); each = second.2 })

names_again : (names : List Name) (rest : List ℕ) → AreNames names → names_at (names_text names ++ rest) ≡ Ok (names, rest)
unfolding names_at
names_again names rest are =
    first_again reads_u32 (λ n. many_at name_at n.0 n.1) (length names) (flat_map (λ name. short_text (name_text name)) names) rest are.few
    ∙ many_again reads_name names rest are.each

pub reads_names : Reads names_at names_text AreNames
reads_names = record { takes = names_take; again = names_again }
