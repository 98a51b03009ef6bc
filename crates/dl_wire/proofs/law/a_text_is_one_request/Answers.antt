use Rattle.std.proofs.Common.{sym, ap, ◌∙◌}
use Rattle.dl_wire.specs.Decode.{whole_at}
use Rattle.dl_wire.proofs.Parts.{ok_is}
use Rattle.dl_wire.proofs.Requests.{whole_again}
use Rattle.dl_wire.proofs.law.a_text_is_one_request.Goals as goal

pub returns : goal.returns
returns g c = λ a b is also same. ok_is a b (sym (whole_again a is) ∙ ap whole_at same ∙ whole_again b also)
