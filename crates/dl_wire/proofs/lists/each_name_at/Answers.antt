use Rattle.std.proofs.lemmas.Result.{err_from_is_err_and}
use Rattle.dl_wire.specs.Reading.{name_at, many_at}
use Rattle.dl_wire.proofs.Loop.{goes_on, ends, is_done}
use Rattle.dl_wire.proofs.lists.each_name_at.Goals as goal

pub returns-in_err-name : goal.returns-in_err-name
returns-in_err-name g c =
    let p = err_from_is_err_and c.from_residual.result c.from_residual.ensures.1 in
    rw (p.1, p.2) (ends name_at c.in_err-name.field-0.0 c.loop.names.items c.args.count c.loop.counter c.loop.rest.now (many_at name_at c.args.count c.args.bytes.now) c.loop-test.true c.in_err-name.ensures c.loop.invariant)

pub loop-preserved : goal.loop-preserved
loop-preserved g c =
    rw c.in_ok-push.ensures.items (goes_on name_at c.loop.names.items c.args.count c.loop.counter c.loop.rest.now c.in_ok-name.name c.in_ok-name.after.now (many_at name_at c.args.count c.args.bytes.now) c.loop-test.true c.in_ok-name.ensures c.loop.invariant)

pub returns : goal.returns
returns g c = is_done name_at c.loop.names.items c.args.count c.loop.counter c.loop.rest.now (many_at name_at c.args.count c.args.bytes.now) c.loop-test.false c.loop.invariant
