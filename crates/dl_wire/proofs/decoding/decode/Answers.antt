-- What is read is written so, and what is written so is read.
use Rattle.std.proofs.Common.{inl, sym, ap, ◌∙◌, arith}
use Rattle.dl_wire.specs.Decode.{whole_at}
use Rattle.dl_wire.proofs.Requests.{whole_takes, whole_again}
use Rattle.dl_wire.proofs.decoding.decode.Goals as goal

pub returns-in-Ok-clause-found : goal.returns-in-Ok-clause-found
returns-in-Ok-clause-found g c = whole_takes c.args.text.now c.in-Ok.request (λ i. omega (arith, c.type_inv.text i)) c.in-Ok.ensures

pub returns-in-Ok-clause-only : goal.returns-in-Ok-clause-only
returns-in-Ok-clause-only g c = λ r fits is.
    let read = sym c.in-Ok.ensures ∙ ap whole_at is ∙ whole_again r fits in
    inl cc

pub returns-in-Err-Left-clause-only : goal.returns-in-Err-Left-clause-only
returns-in-Err-Left-clause-only g c = λ r fits is.
    let left = rw c.in-Err-Left.field-0-is at c.in-Err-Left.ensures in
    let read = sym left ∙ ap whole_at is ∙ whole_again r fits in
    absurd cc
