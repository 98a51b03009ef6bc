-- A frame that is begun, and the length that it gets as it ends.
use Rattle.std.proofs.Common.{◌≡◌, ◌≤◌, ◌+◌, ℕ, List, ◌++◌, length, refl, ap, ◌∙◌, append_assoc, arith}
use Rattle.std.proofs.lemmas.List.{length-append}
use Rattle.dl_wire.specs.Parts.{u32_text}

pub begun : (old now after text : List ℕ) → now ≡ old ++ u32_text 0 → after ≡ now ++ text → after ≡ old ++ (u32_text 0 ++ text)
begun old now after text first then = then ∙ ap (λ (t : List ℕ). t ++ text) first ∙ append_assoc old (u32_text 0) text

length_u32 : (n : ℕ) → length (u32_text n) ≡ 4
unfolding u32_text
length_u32 n = refl

pub begun_long : (old now after text : List ℕ) → now ≡ old ++ u32_text 0 → after ≡ now ++ text → length old + 4 ≤ length after
begun_long old now after text first then =
    let whole = ap length first ∙ length-append old (u32_text 0) in
    let all = ap length then ∙ length-append now text in
    omega (arith, whole, all, length_u32 0)
