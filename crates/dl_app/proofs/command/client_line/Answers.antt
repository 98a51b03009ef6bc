use Rattle.std.proofs.Common.{rules, ◌≡◌, ◌∷◌, codes}
use Rattle.dl_app.specs.declared.command.Command.TheVariants.{Exit}
use Rattle.dl_app.specs.Command.{IsForm}
use Rattle.dl_app.specs.Words.{words_left}
use Rattle.dl_app.proofs.Forms.{if_ended}
use Rattle.dl_app.proofs.command.client_line.Goals as goal

pub returns-then-eq-clause-form : goal.returns-then-eq-clause-form
returns-then-eq-clause-form c =
    let first = c.args.first.now in
    let is : c.in_ok-verb.verb.now ≡ codes "exit" = search rules in
    if_ended (IsForm (first ∷ words_left c.args.words)) (Exit c.in_ok-client.client) (words_left c.next.new.self)
    (λ ended. (first, search rules, cc (c.in_ok-verb.ensures.steps, is, ended))) _ c.is_empty.ensures _ c.then_some.ensures
