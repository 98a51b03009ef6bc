use Rattle.std.proofs.Common.{◌≡◌, ℕ, List, Ok, Some, None, true, length, sym, ◌∙◌, ap, subst}
use Rattle.std.proofs.lemmas.Slice.Eq.{bytes_eq-Decides}
use Rattle.hex.specs.Hex.{decode_sized, encode_lower, IsBytes}
use Rattle.hex.proofs.HexLemmas.{decode_sized-encode_lower}
use Rattle.dl_digest.proofs.parse.hash_in.Goals as goal

-- what the digits of a hash decode to
decoded : (hash word : List ℕ) → IsBytes hash → length hash ≡ 32 → encode_lower hash ≡ word → decode_sized word 32 ≡ Ok hash
decoded hash word bytes size is = subst (λ (w : List ℕ). decode_sized w 32 ≡ Ok hash) is (decode_sized-encode_lower hash 32 size bytes)

pub returns-in_err-ok-clause-read : goal.returns-in_err-ok-clause-read
returns-in_err-ok-clause-read c hash bytes size is =
    let d = decoded hash c.args.word.now bytes size is in
    let v = rw d at c.decode_to_slice.ensures.value in
    let was : c.ok.result ≡ None = c.in_err-ok.was in
    let h = rw v.0 at c.ok.ensures.value in
    cc (h, was)

pub returns-then-eq-clause-read : goal.returns-then-eq-clause-read
returns-then-eq-clause-read c hash bytes size is =
    let d = decoded hash c.args.word.now bytes size is in
    let v = rw d at c.decode_to_slice.ensures.value in
    ap Some v.1

pub returns-else-eq-clause-read : goal.returns-else-eq-clause-read
returns-else-eq-clause-read c hash bytes size is =
    let d = decoded hash c.args.word.now bytes size is in
    let v = rw d at c.decode_to_slice.ensures.value in
    let same : c.as_slice.result.now ≡ c.as_bytes.result.now = c.as_slice.ensures ∙ c.digits_of.ensures ∙ ap encode_lower v.1 ∙ is ∙ sym c.as_bytes.ensures.value in
    let t : c.eq.result ≡ true = c.eq.ensures ∙ (bytes_eq-Decides c.as_slice.result.now c.as_bytes.result.now).1 same in
    cc (t, c.if-eq.false)
