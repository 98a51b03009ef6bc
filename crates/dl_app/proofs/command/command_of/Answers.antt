use Rattle.std.proofs.Common.{rules, ◌≡◌, codes}
use Rattle.dl_app.specs.declared.command.Command.TheVariants.{Flush}
use Rattle.dl_app.specs.Command.{IsForm}
use Rattle.dl_app.specs.Words.{words_of, words_left}
use Rattle.dl_app.proofs.Forms.{if_ended}
use Rattle.dl_app.proofs.command.command_of.Goals as goal

pub returns-then-eq-2-clause-form : goal.returns-then-eq-2-clause-form
returns-then-eq-2-clause-form c =
    let is : c.in_ok-first.first.now ≡ codes "flush" = search rules in
    if_ended (IsForm (words_of c.args.line.now)) Flush (words_left c.next.new.self) (λ ended. cc (c.of-words.ensures, c.in_ok-first.ensures.steps, is, ended)) _ c.is_empty.ensures _ c.then_some.ensures
