use Rattle.std.proofs.Common.{◌≡◌, Some, None, sym}
use Rattle.std.specs.Fmt.{decimal}
use Rattle.hex.specs.Hex.{encode_lower}
use Rattle.dl_digest.proofs.Words.{decimal_word}
use Rattle.dl_digest.proofs.parse.digest_in.Goals as goal

pub returns-in_err-items-clause-read : goal.returns-in_err-items-clause-read
returns-in_err-items-clause-read c digest is text =
    absurd (rw c.in_err-items.was at (c.split_word.ensures.first (decimal digest.items) (encode_lower digest.hash) (decimal_word digest.items is.items) (sym text)))

pub returns-in_err-number_in-clause-read : goal.returns-in_err-number_in-clause-read
returns-in_err-number_in-clause-read c digest is text =
    let parts = rw c.in_ok-items.was at (c.split_word.ensures.first (decimal digest.items) (encode_lower digest.hash) (decimal_word digest.items is.items) (sym text)) in
    let n : c.number_in.result ≡ Some digest.items = c.number_in.ensures.read digest.items is.items (sym parts.0) in
    let was : c.number_in.result ≡ None = c.in_err-number_in.was in
    cc (n, was)

pub returns-in_err-hash_in-clause-read : goal.returns-in_err-hash_in-clause-read
returns-in_err-hash_in-clause-read c digest is text =
    let parts = rw c.in_ok-items.was at (c.split_word.ensures.first (decimal digest.items) (encode_lower digest.hash) (decimal_word digest.items is.items) (sym text)) in
    let h : c.hash_in.result ≡ Some digest.hash = c.hash_in.ensures.read digest.hash is.bytes is.hash (sym parts.1) in
    let was : c.hash_in.result ≡ None = c.in_err-hash_in.was in
    cc (h, was)

pub returns-clause-read : goal.returns-clause-read
returns-clause-read c digest is text =
    let parts = rw c.in_ok-items.was at (c.split_word.ensures.first (decimal digest.items) (encode_lower digest.hash) (decimal_word digest.items is.items) (sym text)) in
    let n : c.number_in.result ≡ Some digest.items = c.number_in.ensures.read digest.items is.items (sym parts.0) in
    let h : c.hash_in.result ≡ Some digest.hash = c.hash_in.ensures.read digest.hash is.bytes is.hash (sym parts.1) in
    let n_was : c.number_in.result ≡ Some c.in_ok-number_in.field-0 = c.in_ok-number_in.was in
    let h_was : c.hash_in.result ≡ Some c.in_ok-hash_in.field-0 = c.in_ok-hash_in.was in
    let n_is : c.in_ok-number_in.field-0 ≡ digest.items = cc (n, n_was) in
    let h_is : c.in_ok-hash_in.field-0 ≡ digest.hash = cc (h, h_was) in
    (λ i. Some (record { items = n_is i; hash = h_is i }))
