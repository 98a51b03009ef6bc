use Rattle.std.proofs.Common.{◌+◌, sym}
use Rattle.std.proofs.lemmas.List.{take_rest}
use Rattle.dl_app.proofs.Spaces.{at_space}
use Rattle.dl_app.proofs.words.split_word.Goals as goal

pub returns-in-Some : goal.returns-in-Some
returns-in-Some c =
    rw (take_rest c.args.text.now (c.in-Some.end + 1)) (at_space c.args.text.now c.in-Some.end (sym c.in-Some.ensures.value))
