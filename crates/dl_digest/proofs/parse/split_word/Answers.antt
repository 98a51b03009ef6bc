use Rattle.std.proofs.Common.{◌≢◌, arith}
use Rattle.std.proofs.lemmas.List.Elements.{All-get_or}
use Rattle.std.proofs.lemmas.Str.Pattern.{split_after}
use Rattle.dl_digest.proofs.parse.split_word.Goals as goal

pub returns-clause-first : goal.returns-clause-first
returns-clause-first c word rest none is =
    split_after 32 c.args.text.now word rest c.split_once.result c.split_once.ensures.cases (omega arith) is (λ i below. All-get_or (λ b. b ≢ 32) word i 0 below none)
