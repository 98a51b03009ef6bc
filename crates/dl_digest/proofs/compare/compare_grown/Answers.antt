use Rattle.std.proofs.Common.{subst}
use Rattle.dl_digest.specs.declared.log.DigestArgs.{DigestArgs}
use Rattle.dl_digest.specs.Log.{IsDigested}
use Rattle.dl_digest.proofs.compare.compare_grown.Goals as goal

pub returns : goal.returns
returns g c = record {
  front = c.in_ok-front.front;
  read = subst (λ (a : DigestArgs). IsDigested g.D.Disk.state g.row.A.Denot c.args.log a c.in_ok-front.front c.args.hub.now c.digest_log.new.hub) c.front.ensures c.in_ok-front.ensures.whole;
  agrees = c.compare_front.ensures;
}
