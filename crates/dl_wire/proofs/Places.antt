-- Choices, sizes and places are read where they are written.
use Rattle.std.proofs.Common.{◌≡◌, ◌<◌, ◌^◌, ℕ, ℤ, zero, suc, List, [], ◌∷◌, ◌++◌, Bool, true, false, Some, Ok, refl, sym, ap, subst, ◌∙◌, append_assoc, arith}
use Rattle.std.specs.Prelude.{⊤, FitsSigned}
use Rattle.std.specs.Int.{w32, w64, cast_signed, cast_unsigned}
use Rattle.std.specs.List.{slice_get}
use Rattle.std.proofs.lemmas.Int.{of_z-to_z, to_z-of_z}
use Rattle.std.proofs.Math.Facts.{Fits-of_z, Fits-of_lt, sfits_to_z}
use Rattle.dl_types.specs.declared.name.Name.{Name}
use Rattle.dl_types.specs.declared.place.Continuation.{Continuation}
use Rattle.dl_types.specs.declared.place.Place.{Place}
use Rattle.dl_types.specs.declared.place.Place.TheVariants.{Start, At}
use Rattle.dl_types.specs.declared.size.Kind.{Kind}
use Rattle.dl_types.specs.declared.size.Kind.TheVariants as kind
use Rattle.dl_types.specs.declared.size.Link.{Link}
use Rattle.dl_types.specs.declared.size.Link.TheVariants as link
use Rattle.dl_types.specs.declared.size.Mode.{Mode}
use Rattle.dl_types.specs.declared.size.Mode.TheVariants as mode
use Rattle.dl_types.specs.declared.size.Repair.{Repair}
use Rattle.dl_types.specs.declared.size.Repair.TheVariants as repair
use Rattle.dl_types.specs.declared.size.Size.{Size}
use Rattle.dl_types.specs.declared.size.Size.TheVariants as size
use Rattle.dl_wire.specs.Decode.{bools, kinds, modes, repairs, links, position_at, place_at}
use Rattle.dl_wire.specs.Fits.{IsSize, IsPlace}
use Rattle.dl_wire.specs.Parts.{i32_text, bool_code, kind_code, mode_code, repair_code, link_code, u32_text, u64_text, size_text, position_text, place_text}
use Rattle.dl_wire.specs.Reading.{Read, ◌>>=◌, number_at, i32_at, choice_at, size_at}
use Rattle.dl_wire.proofs.Parts.{IsBytes, IsBytes-rest, ok_is, made_of, made_of_two, Takes-then, Takes-cons, TakesAs, Reads, first_takes, one_takes, one_again, two_again, reads_u32, reads_u64, reads_choice}

-- ---- choices

bool_found : (b : Bool) → slice_get bools (bool_code b) ≡ Some b
bool_found false = refl
bool_found true = refl

kind_found : (k : Kind) → slice_get kinds (kind_code k) ≡ Some k
kind_found kind.Halt = refl
kind_found kind.Wrap = refl

mode_found : (m : Mode) → slice_get modes (mode_code m) ≡ Some m
mode_found mode.ReadWrite = refl
mode_found mode.ReadOnly = refl

repair_found : (r : Repair) → slice_get repairs (repair_code r) ≡ Some r
repair_found repair.Yes = refl
repair_found repair.No = refl
repair_found repair.Truncate = refl

link_found : (l : Link) → slice_get links (link_code l) ≡ Some l
link_found link.Owner = refl
link_found link.Anonymous = refl

pub reads_bool : Reads (choice_at bools) (λ b. bool_code b ∷ []) (λ b. ⊤)
reads_bool = reads_choice bool_code bools (refl, (refl, tt)) bool_found

pub reads_kind : Reads (choice_at kinds) (λ k. kind_code k ∷ []) (λ k. ⊤)
reads_kind = reads_choice kind_code kinds (refl, (refl, tt)) kind_found

pub reads_mode : Reads (choice_at modes) (λ m. mode_code m ∷ []) (λ m. ⊤)
reads_mode = reads_choice mode_code modes (refl, (refl, tt)) mode_found

pub reads_repair : Reads (choice_at repairs) (λ r. repair_code r ∷ []) (λ r. ⊤)
reads_repair = reads_choice repair_code repairs (refl, (refl, (refl, tt))) repair_found

pub reads_link : Reads (choice_at links) (λ l. link_code l ∷ []) (λ l. ⊤)
reads_link = reads_choice link_code links (refl, (refl, tt)) link_found

-- ---- sizes

size_takes : (bytes : List ℕ) (x : Size × List ℕ) → IsBytes bytes → size_at bytes ≡ Ok x → TakesAs size_text IsSize bytes x
unfolding size_at
size_takes [] x fits e = absurd cc
size_takes (zero ∷ rest) x fits e =
    subst (λ (y : Size × List ℕ). TakesAs size_text IsSize (0 ∷ rest) y) (ok_is (size.Infinity, rest) x e) (record { parts = refl; rest_fits = IsBytes-rest 0 rest fits }, tt)
size_takes (suc zero ∷ rest) x fits e =
    let p = first_takes reads_u64 (made_of size.Limit) rest x (IsBytes-rest 1 rest fits) e in
    subst (λ (y : Size × List ℕ). TakesAs size_text IsSize (1 ∷ rest) y) (ok_is (size.Limit p.0.0, p.0.1) x p.2) (Takes-cons 1 rest (u64_text p.0.0) p.0.1 p.1.0, p.1.1)
size_takes (suc (suc zero) ∷ rest) x fits e =
    let p = first_takes reads_u64 (made_of_two (number_at w32) size.Wrap) rest x (IsBytes-rest 2 rest fits) e in
    let q = first_takes reads_u32 (made_of (size.Wrap p.0.0)) p.0.1 x p.1.0.rest_fits p.2 in
    let both = Takes-then rest (u64_text p.0.0) p.0.1 (u32_text q.0.0) q.0.1 p.1.0 q.1.0 in
    subst (λ (y : Size × List ℕ). TakesAs size_text IsSize (2 ∷ rest) y) (ok_is (size.Wrap p.0.0 q.0.0, q.0.1) x q.2) (Takes-cons 2 rest (u64_text p.0.0 ++ u32_text q.0.0) q.0.1 both, (p.1.1, q.1.1))
size_takes (suc (suc (suc b)) ∷ rest) x fits e = absurd cc

size_again : (s : Size) (rest : List ℕ) → IsSize s → size_at (size_text s ++ rest) ≡ Ok (s, rest)
unfolding size_at
size_again size.Infinity rest fit = refl
size_again (size.Limit n) rest fit = one_again reads_u64 size.Limit n rest fit
size_again (size.Wrap bytes files) rest fit = two_again reads_u64 reads_u32 size.Wrap bytes files rest fit.0 fit.1

pub reads_size : Reads size_at size_text IsSize
reads_size = record { takes = size_takes; again = size_again }

-- ---- places

i32_takes : (bytes : List ℕ) (x : ℤ × List ℕ) → IsBytes bytes → i32_at bytes ≡ Ok x → TakesAs i32_text (FitsSigned w32) bytes x
unfolding i32_at
i32_takes bytes x fits e =
    one_takes reads_u32 (cast_signed w32) i32_text (FitsSigned w32) (λ n fit. ap u32_text (of_z-to_z w32 n fit)) (λ n fit. sfits_to_z (Fits-of_lt fit)) bytes x fits e

i32_again : (z : ℤ) (rest : List ℕ) → FitsSigned w32 z → i32_at (i32_text z ++ rest) ≡ Ok (z, rest)
unfolding i32_at
i32_again z rest fit =
    one_again reads_u32 (cast_signed w32) (cast_unsigned w32 z) rest (omega (arith, Fits-of_z fit)) ∙ ap (λ (y : ℤ). Ok (y, rest)) (to_z-of_z w32 z fit)

pub reads_i32 : Reads i32_at i32_text (FitsSigned w32)
reads_i32 = record { takes = i32_takes; again = i32_again }

abbrev IsPosition : Name → Continuation → Type 0
IsPosition log c = (c.log ≡ log) × (c.generation < 2 ^ 64) × (c.passed < 2 ^ 64)

abbrev position : Name → ℕ → ℕ → Bool → Continuation
position log generation passed told = record { log = log; generation = generation; passed = passed; told = told }

position_takes : (log : Name) (bytes : List ℕ) (x : Continuation × List ℕ) → IsBytes bytes → position_at log bytes ≡ Ok x → TakesAs position_text (IsPosition log) bytes x
unfolding position_at
position_takes log bytes x fits e =
    let g = first_takes reads_u64 (λ g. number_at w64 g.1 >>= made_of_two (choice_at bools) (position log g.0)) bytes x fits e in
    let p = first_takes reads_u64 (made_of_two (choice_at bools) (position log g.0.0)) g.0.1 x g.1.0.rest_fits g.2 in
    let t = first_takes reads_bool (made_of (position log g.0.0 p.0.0)) p.0.1 x p.1.0.rest_fits p.2 in
    let later = Takes-then g.0.1 (u64_text p.0.0) p.0.1 (bool_code t.0.0 ∷ []) t.0.1 p.1.0 t.1.0 in
    let all = Takes-then bytes (u64_text g.0.0) g.0.1 (u64_text p.0.0 ++ bool_code t.0.0 ∷ []) t.0.1 g.1.0 later in
    subst (λ (y : Continuation × List ℕ). TakesAs position_text (IsPosition log) bytes y) (ok_is (position log g.0.0 p.0.0 t.0.0, t.0.1) x t.2) (all, (refl, g.1.1, p.1.1))

position_again : (log : Name) (c : Continuation) (rest : List ℕ) → IsPosition log c → position_at log (position_text c ++ rest) ≡ Ok (c, rest)
unfolding position_at
position_again log c rest fit =
    let moved = append_assoc (u64_text c.generation) (u64_text c.passed ++ bool_code c.told ∷ []) rest in
    ap (λ (t : List ℕ). number_at w64 t >>= λ g. number_at w64 g.1 >>= made_of_two (choice_at bools) (position log g.0)) moved
    ∙ ap (λ (r : Read ℕ). r >>= λ g. number_at w64 g.1 >>= made_of_two (choice_at bools) (position log g.0)) (reads_u64.again c.generation ((u64_text c.passed ++ bool_code c.told ∷ []) ++ rest) fit.1)
    ∙ two_again reads_u64 reads_bool (position log c.generation) c.passed c.told rest fit.2 tt
    ∙ ap (λ (l : Name). Ok (record c { log = l }, rest)) (sym fit.0)

pub reads_position : (log : Name) → Reads (position_at log) position_text (IsPosition log)
reads_position log = record { takes = position_takes log; again = position_again log }

place_takes : (log : Name) (bytes : List ℕ) (x : Place × List ℕ) → IsBytes bytes → place_at log bytes ≡ Ok x → TakesAs place_text (IsPlace log) bytes x
unfolding place_at
place_takes log [] x fits e = absurd cc
place_takes log (zero ∷ rest) x fits e =
    subst (λ (y : Place × List ℕ). TakesAs place_text (IsPlace log) (0 ∷ rest) y) (ok_is (Start, rest) x e) (record { parts = refl; rest_fits = IsBytes-rest 0 rest fits }, tt)
place_takes log (suc zero ∷ rest) x fits e =
    let p = first_takes (reads_position log) (made_of At) rest x (IsBytes-rest 1 rest fits) e in
    subst (λ (y : Place × List ℕ). TakesAs place_text (IsPlace log) (1 ∷ rest) y) (ok_is (At p.0.0, p.0.1) x p.2) (Takes-cons 1 rest (position_text p.0.0) p.0.1 p.1.0, p.1.1)
place_takes log (suc (suc b) ∷ rest) x fits e = absurd cc

place_again : (log : Name) (p : Place) (rest : List ℕ) → IsPlace log p → place_at log (place_text p ++ rest) ≡ Ok (p, rest)
unfolding place_at
place_again log Start rest fit = refl
place_again log (At c) rest fit = one_again (reads_position log) At c rest fit

pub reads_place : (log : Name) → Reads (place_at log) place_text (IsPlace log)
reads_place log = record { takes = place_takes log; again = place_again log }
