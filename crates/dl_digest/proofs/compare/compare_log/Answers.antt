use Rattle.std.proofs.Common.{◌≡◌, ◌≢◌, [], length, ap, subst, arith}
use Rattle.std.proofs.lemmas.Result.{IfOk-weaker}
use Rattle.dl_digest.specs.declared.log.DigestArgs.{DigestArgs}
use Rattle.dl_digest.specs.Log.{IsDigested}
use Rattle.dl_digest.proofs.Compares.{log_compared}
use Rattle.dl_digest.proofs.compare.compare_log.Goals as goal

pub returns : goal.returns
returns g c =
    let own = c.in_ok-own.own.items in
    let some : own ≢ [] = λ is. let h = c.is_empty.ensures in let e : length own ≡ 0 = ap length is in grind (arith, h, e, c.if-is_empty.false) in
    let read = subst (λ (a : DigestArgs). IsDigested g.D.Disk.state g.row.A.Denot c.args.log a c.in_ok-now.now c.args.hub.now c.digest_log.new.hub) c.of.ensures c.in_ok-now.ensures.whole in
    IfOk-weaker c.compare_lines.result _ _ (λ compared h. log_compared g.D.Disk.state c.args.log c.args.kind own _ compared.items c.in_ok-now.now c.args.hub.now c.digest_log.new.hub _ c.in_ok-own.ensures some read (rw c.as_slice.ensures.value at h)) c.compare_lines.ensures
