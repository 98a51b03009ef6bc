-- The front of some bytes as a frame.
use Rattle.std.proofs.Common.{◌≡◌, ◌≤◌, ◌+◌, ℕ, List, ◌++◌, false, ltb, length, take, drop, Ok, refl, sym, ap, ◌∙◌, append_assoc, subst, arith}
use Rattle.std.specs.Int.{w32}
use Rattle.dl_wire.specs.declared.limits.TheConstants.{FRAME_LIMIT}
use Rattle.std.proofs.lemmas.Bool.{le-ltb}
use Rattle.std.proofs.lemmas.List.{take-append-drop, length-take, length-drop, drop-drop}
use Rattle.dl_wire.specs.Parts.{u32_text}
use Rattle.dl_wire.specs.Reading.{number_at}
use Rattle.dl_wire.specs.Answer.{frame_text}
use Rattle.dl_wire.proofs.Parts.{IsBytes, reads_u32}
use Rattle.dl_serve.specs.Frames.{front_number}

-- the length, and what follows it
front_parts : (bytes : List ℕ) → IsBytes bytes → 4 ≤ length bytes → bytes ≡ u32_text (front_number bytes) ++ drop 4 bytes
front_parts bytes fits long =
    let begun : ltb (length bytes) 4 ≡ false = le-ltb _ _ long in
    let read : number_at w32 bytes ≡ Ok (front_number bytes, drop 4 bytes) = rw begun refl in
    (reads_u32.takes bytes (front_number bytes, drop 4 bytes) fits read).0.parts

-- a whole frame, and what follows it
pub front_whole : (bytes text : List ℕ) → IsBytes bytes → 4 ≤ length bytes → text ≡ take (front_number bytes) (drop 4 bytes) → front_number bytes ≤ length (drop 4 bytes)
    → (4 + length text ≤ length bytes) × (bytes ≡ frame_text text ++ drop (4 + length text) bytes)
front_whole bytes text fits long is whole =
    let n : ℕ = front_number bytes in
    let rest : List ℕ = drop 4 bytes in
    let len : length text ≡ n = ap length is ∙ (omega (arith, length-take n rest, whole)) in
    let tail : drop n rest ≡ drop (4 + length text) bytes = rw (len) (drop-drop n 4 bytes) in
    let parts : bytes ≡ frame_text text ++ drop (4 + length text) bytes =
    front_parts bytes fits long ∙ ap (λ (t : List ℕ). u32_text n ++ t) (sym (take-append-drop n rest))
    ∙ sym (append_assoc (u32_text n) (take n rest) (drop n rest))
    ∙ (λ i. (u32_text (sym len i) ++ sym is i) ++ tail i) in
    (omega (arith, len, whole, length-drop 4 bytes), parts)

-- the same of parts that were taken one after another
pub front_is : (bytes rest text : List ℕ) (n : ℕ) → IsBytes bytes → 4 ≤ length bytes → n ≡ front_number bytes → rest ≡ drop 4 bytes → text ≡ take n rest → n ≤ length rest → n ≤ FRAME_LIMIT
    → (length text ≤ FRAME_LIMIT) × (4 + length text ≤ length bytes) × (bytes ≡ frame_text text ++ drop (4 + length text) bytes)
front_is bytes rest text n fits long number follows is whole short =
    let same : text ≡ take (front_number bytes) (drop 4 bytes) = is ∙ (λ i. take (number i) (follows i)) in
    let enough : front_number bytes ≤ length (drop 4 bytes) = subst (λ (k : ℕ). k ≤ length (drop 4 bytes)) number (subst (λ (l : List ℕ). n ≤ length l) follows whole) in
    let both = front_whole bytes text fits long same enough in
    let len = ap length is ∙ length-take n rest in
    (omega (arith, len, short), both.0, both.1)
