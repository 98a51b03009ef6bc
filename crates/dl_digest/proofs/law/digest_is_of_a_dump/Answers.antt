use Rattle.std.proofs.Common.{ap, sym}
use Rattle.sha2.specs.Sha256.{sha256}
use Rattle.dl_pipe.specs.declared.form.Form.TheVariants as form
use Rattle.dl_pipe.proofs.Spots.{dump_plain}
use Rattle.dl_digest.proofs.law.digest_is_of_a_dump.Goals as goal

pub returns : goal.returns
returns g c given = ap sha256 (sym (dump_plain form.Raw given))
