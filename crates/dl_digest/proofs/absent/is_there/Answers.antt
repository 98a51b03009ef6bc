use Rattle.std.proofs.Common.{Result, subst}
use Rattle.std.specs.Prelude.{IfOk}
use Rattle.dl_pipe.specs.declared.fault.PipeFault.{PipeFault}
use Rattle.dl_digest.specs.declared.log.DigestArgs.{DigestArgs}
use Rattle.dl_digest.specs.declared.log.LogDigests.{LogDigests}
use Rattle.dl_digest.specs.Log.{IsDigested}
use Rattle.dl_digest.proofs.absent.is_there.Goals as goal

pub returns-clause-there : goal.returns-clause-there
returns-clause-there g c there =
    let state = g.D.Disk.state in
    let Z = g.row.A.Denot in
    let new = c.digest_log-read.new.hub in
    let digests = c.in_ok-read.field-0 in
    let read = subst (λ (r : Result (LogDigests Z) PipeFault). IfOk r (λ d. IsDigested state Z c.args.log c.front.result d c.args.hub.now new)) c.in_ok-read.was c.digest_log-read.ensures.whole in
    (digests, subst (λ (a : DigestArgs). IsDigested state Z c.args.log a digests c.args.hub.now new) c.front.ensures read)
