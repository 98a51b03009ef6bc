use Rattle.std.proofs.Common.{ℕ, List, ◌++◌, ◌∙◌, codes, ap, append_assoc}
use Rattle.std.proofs.lemmas.Result.{on_ok_weaker}
use Rattle.dl_tool.specs.Json.{json_amount, json_repair}
use Rattle.dl_tool.proofs.json.push_torn.Goals as goal

pub returns : goal.returns
returns g c =
    let repair = json_repair c.args.kept c.args.cut in
    on_ok_weaker c.push_repair.result
    (λ h. h ∙ ap (λ (l : List ℕ). l ++ repair) c.in_ok-push_amount.ensures ∙ append_assoc c.args.text.now.items (json_amount (codes "needs repair") c.args.amount) repair) c.push_repair.ensures
