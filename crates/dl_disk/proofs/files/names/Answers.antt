use Rattle.std.proofs.Common.{◌≡◌, IfOk, arith}
use Rattle.std.specs.Map.{keys_of}
use Rattle.std.proofs.lemmas.Result.{IfOk-weaker}
use Rattle.std.proofs.lemmas.Grind.{common_steps}
use Rattle.dl_disk.proofs.Maps.{names_of_table}
use Rattle.dl_disk.proofs.files.names.Goals as goal

pub returns : goal.returns
returns g c =
    let items : IfOk c.collect.result (λ names. names.items ≡ keys_of c.args.files.now.entries) = grind (arith, common_steps) in
    IfOk-weaker c.collect.result _ _ (λ names is. names_of_table c.args.files.now.entries names.items is c.keys.ensures.unique) items
