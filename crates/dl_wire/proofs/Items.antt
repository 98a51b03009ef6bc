-- Items are read where they are written, alone and in lists.
use Rattle.std.proofs.Common.{◌≡◌, ◌≤◌, ℕ, List, ◌++◌, true, false, cond, ltb, length, take, drop, Ok, Err, refl, sym, subst, ◌∙◌, arith}
use Rattle.std.specs.List.{flat_map}
use Rattle.std.proofs.lemmas.Bool.{ltb-true, lt-ltb, ltb-false, le-ltb}
use Rattle.std.proofs.lemmas.List.{take_at, drop_at, take-append-drop, length-append, length-take}
use Rattle.dl_types.specs.declared.limits.TheConstants.{ITEM_LIMIT}
use Rattle.dl_wire.specs.Fits.{IsItem, AreItems}
use Rattle.dl_wire.specs.Parts.{u32_text, bytes_text, list_text}
use Rattle.dl_wire.specs.Reading.{◌>>=◌, item_at, many_at, list_at}
use Rattle.dl_wire.proofs.Many.{many_take, many_again}
use Rattle.dl_wire.proofs.Parts.{IsBytes, IsBytes-drop, bind_ok, guard_ok, wanted_ok, ok_is, Takes, Takes-then, TakesAs, Reads, reads_u32, first_takes, first_again}

item_takes : (bytes : List ℕ) (x : List ℕ × List ℕ) → IsBytes bytes → item_at bytes ≡ Ok x → TakesAs bytes_text IsItem bytes x
unfolding item_at
item_takes bytes x fits e =
    let p = first_takes reads_u32 (λ n. cond (ltb ITEM_LIMIT n.0) (Err (length bytes)) (cond (ltb (length n.1) n.0) (Err (length bytes)) (Ok (take n.0 n.1, drop n.0 n.1)))) bytes x fits e in
    let n : ℕ = p.0.0 in
    let rest : List ℕ = p.0.1 in
    let short = guard_ok (ltb ITEM_LIMIT n) (length bytes) (cond (ltb (length rest) n) (Err (length bytes)) (Ok (take n rest, drop n rest))) x p.2 in
    let g = guard_ok (ltb (length rest) n) (length bytes) (Ok (take n rest, drop n rest)) x short.1 in
    let within : n ≤ ITEM_LIMIT = ltb-false _ _ short.0 in
    let long : n ≤ length rest = ltb-false _ _ g.0 in
    let len : length (take n rest) ≡ n = omega (arith, length-take n rest) in
    let made : List ℕ × List ℕ = (take n rest, drop n rest) in
    let second : Takes rest (take n rest) (drop n rest) = record { parts = sym (take-append-drop n rest); rest_fits = IsBytes-drop n rest p.1.0.rest_fits } in
    let both = Takes-then bytes (u32_text n) rest (take n rest) (drop n rest) p.1.0 second in
    let whole : Takes bytes (bytes_text (take n rest)) (drop n rest) = subst (λ (k : ℕ). Takes bytes (u32_text k ++ take n rest) (drop n rest)) (sym len) both in
    let item : IsItem (take n rest) = omega (arith, len, within) in
    subst (λ (y : List ℕ × List ℕ). TakesAs bytes_text IsItem bytes y) (ok_is made x g.1) (whole, item)

item_again : (item rest : List ℕ) → IsItem item → item_at (bytes_text item ++ rest) ≡ Ok (item, rest)
unfolding item_at
item_again item rest fit =
    let within : ltb ITEM_LIMIT (length item) ≡ false = le-ltb _ _ fit in
    let long : ltb (length (item ++ rest)) (length item) ≡ false = le-ltb _ _ (omega (arith, length-append item rest)) in
    first_again reads_u32 (λ n. cond (ltb ITEM_LIMIT n.0) (Err (length (bytes_text item ++ rest))) (cond (ltb (length n.1) n.0) (Err (length (bytes_text item ++ rest))) (Ok (take n.0 n.1, drop n.0 n.1)))) (length item) item rest (omega (arith, fit))
    ∙ rw (within, long, take_at item rest (length item) refl, drop_at item rest (length item) refl) refl

pub reads_item : Reads item_at bytes_text IsItem
reads_item = record { takes = item_takes; again = item_again }

list_takes : (bytes : List ℕ) (x : List (List ℕ) × List ℕ) → IsBytes bytes → list_at bytes ≡ Ok x → TakesAs (list_text bytes_text) AreItems bytes x
unfolding list_at
list_takes bytes x fits e =
    let p = first_takes reads_u32 (λ n. many_at item_at n.0 n.1 >>= λ items. cond (ltb 0 (length items.0)) (Ok items) (Err (length bytes))) bytes x fits e in
    let q = bind_ok (many_at item_at p.0.0 p.0.1) (λ items. cond (ltb 0 (length items.0)) (Ok items) (Err (length bytes))) x p.2 in
    let g = wanted_ok (ltb 0 (length q.0.0)) (length bytes) (Ok q.0) x q.2 in
    let second = many_take reads_item p.0.0 p.0.1 q.0 p.1.0.rest_fits q.1 in
    let both = Takes-then bytes (u32_text p.0.0) p.0.1 (flat_map bytes_text q.0.0) q.0.1 p.1.0 second.0 in
    let whole : Takes bytes (list_text bytes_text q.0.0) q.0.1 = subst (λ (k : ℕ). Takes bytes (u32_text k ++ flat_map bytes_text q.0.0) q.0.1) (sym second.1) both in
    subst (λ (y : List (List ℕ) × List ℕ). TakesAs (list_text bytes_text) AreItems bytes y) (ok_is q.0 x g.1)
    (whole, record { some = ltb-true 0 (length q.0.0) g.0; few = omega (arith, second.1, p.1.1); each = second.2 })

list_again : (items : List (List ℕ)) (rest : List ℕ) → AreItems items → list_at (list_text bytes_text items ++ rest) ≡ Ok (items, rest)
unfolding list_at
list_again items rest are =
    let some : ltb 0 (length items) ≡ true = lt-ltb 0 (length items) are.some in
    first_again reads_u32 (λ n. many_at item_at n.0 n.1 >>= λ items. cond (ltb 0 (length items.0)) (Ok items) (Err _)) (length items) (flat_map bytes_text items) rest are.few
    ∙ rw (many_again reads_item items rest are.each, some) refl

pub reads_list : Reads list_at (list_text bytes_text) AreItems
reads_list = record { takes = list_takes; again = list_again }
