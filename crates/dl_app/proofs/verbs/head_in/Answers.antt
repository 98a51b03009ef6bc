use Rattle.std.proofs.Common.{rules, ◌≡◌, true}
use Rattle.dl_app.specs.Items.{is_item}
use Rattle.dl_app.specs.Words.{words_left}
use Rattle.dl_app.proofs.Forms.{only_word}
use Rattle.dl_app.proofs.verbs.head_in.Goals as goal

pub returns-clause-form : goal.returns-clause-form
returns-clause-form c =
    let item : is_item c.in-Some.word.now ≡ true = search rules in
    let ended : c.is_empty.result ≡ true = search rules in
    (item, only_word (words_left c.args.words) (words_left c.next.new.self) c.in-Some.word.now c.is_empty.result c.in-Some.ensures.steps c.is_empty.ensures ended)
