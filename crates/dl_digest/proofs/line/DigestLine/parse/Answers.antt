use Rattle.std.proofs.Common.{◌≡◌, ◌∷◌, ◌++◌, Some, None, sym, ◌∙◌, ap}
use Rattle.dl_types.specs.Name.{name_of, name_text}
use Rattle.dl_digest.specs.Line.{digest_text, extent_text}
use Rattle.dl_digest.proofs.Words.{extent_word, name_word}
use Rattle.dl_digest.proofs.line.DigestLine.parse.Goals as goal

pub returns-in_err-extent-clause-read : goal.returns-in_err-extent-clause-read
returns-in_err-extent-clause-read c line is text =
    let behind = extent_text line.extent ++ 32 ∷ digest_text line.digest in
    let first = rw c.in_ok-name.was at (c.split_word.ensures.first (name_text line.log) behind (name_word (name_text line.log) is.name) (sym text)) in
    absurd (rw c.in_err-extent.was at (c.split_word-2.ensures.first (extent_text line.extent) (digest_text line.digest) (extent_word line.extent is.extent) first.1))

pub returns-in_err-extent_in-clause-read : goal.returns-in_err-extent_in-clause-read
returns-in_err-extent_in-clause-read c line is text =
    let behind = extent_text line.extent ++ 32 ∷ digest_text line.digest in
    let first = rw c.in_ok-name.was at (c.split_word.ensures.first (name_text line.log) behind (name_word (name_text line.log) is.name) (sym text)) in
    let second = rw c.in_ok-extent.was at (c.split_word-2.ensures.first (extent_text line.extent) (digest_text line.digest) (extent_word line.extent is.extent) first.1) in
    let e : c.extent_in.result ≡ Some line.extent = c.extent_in.ensures.read line.extent is.extent (sym second.0) in
    let was : c.extent_in.result ≡ None = c.in_err-extent_in.was in
    cc (e, was)

pub returns-in_err-digest_in-clause-read : goal.returns-in_err-digest_in-clause-read
returns-in_err-digest_in-clause-read c line is text =
    let behind = extent_text line.extent ++ 32 ∷ digest_text line.digest in
    let first = rw c.in_ok-name.was at (c.split_word.ensures.first (name_text line.log) behind (name_word (name_text line.log) is.name) (sym text)) in
    let second = rw c.in_ok-extent.was at (c.split_word-2.ensures.first (extent_text line.extent) (digest_text line.digest) (extent_word line.extent is.extent) first.1) in
    let d : c.digest_in.result ≡ Some line.digest = c.digest_in.ensures.read line.digest is.digest (sym second.1) in
    let was : c.digest_in.result ≡ None = c.in_err-digest_in.was in
    cc (d, was)

pub returns-clause-read : goal.returns-clause-read
returns-clause-read c line is text =
    let behind = extent_text line.extent ++ 32 ∷ digest_text line.digest in
    let first = rw c.in_ok-name.was at (c.split_word.ensures.first (name_text line.log) behind (name_word (name_text line.log) is.name) (sym text)) in
    let second = rw c.in_ok-extent.was at (c.split_word-2.ensures.first (extent_text line.extent) (digest_text line.digest) (extent_word line.extent is.extent) first.1) in
    let e : c.extent_in.result ≡ Some line.extent = c.extent_in.ensures.read line.extent is.extent (sym second.0) in
    let d : c.digest_in.result ≡ Some line.digest = c.digest_in.ensures.read line.digest is.digest (sym second.1) in
    let e_was : c.extent_in.result ≡ Some c.in_ok-extent_in.field-0 = c.in_ok-extent_in.was in
    let d_was : c.digest_in.result ≡ Some c.in_ok-digest_in.field-0 = c.in_ok-digest_in.was in
    let e_is : c.in_ok-extent_in.field-0 ≡ line.extent = cc (e, e_was) in
    let d_is : c.in_ok-digest_in.field-0 ≡ line.digest = cc (d, d_was) in
    let name_is : c.in_ok-parse.field-0 ≡ line.log = c.in_ok-parse.ensures.named ∙ ap name_of (c.as_bytes.ensures.value ∙ first.0) ∙ sym is.padded in
    (λ i. Some (record { log = name_is i; extent = e_is i; digest = d_is i }))
