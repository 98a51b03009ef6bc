use Rattle.std.proofs.Common.{arith}
use Rattle.dl_serve.proofs.Fronts.{front_is}
use Rattle.dl_serve.proofs.frames.front_of.Goals as goal

pub returns : goal.returns
returns c =
    front_is c.args.bytes.now c.split_at.result.1.now c.split_at-2.result.0.now c.front_number-length.result (λ i. omega (arith, c.type_inv.bytes i)) c.if-bytes-lt-LENGTH_BYTES.false
    c.front_number-length.ensures c.split_at.ensures.back c.split_at-2.ensures.front c.if-rest-length.false c.if-length-gt-FRAME_LIMIT.false
