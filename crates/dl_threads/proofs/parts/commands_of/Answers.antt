use Rattle.std.proofs.Common.{◌≡◌, ◌+◌, ◌++◌, ◌∷◌, [], List, Some, Option, drop, sym, ap, ◌∙◌, subst, arith, vec_items}
use Rattle.std.specs.Prelude.{IfSome, IfNone}
use Rattle.dl_app.specs.declared.command.Command.{Command}
use Rattle.dl_app.specs.Command.{IsForm}
use Rattle.dl_app.specs.Words.{words_of}
use Rattle.std.proofs.lemmas.List.{drop_all}
use Rattle.dl_threads.specs.Commands.{HasNoCommand}
use Rattle.dl_threads.specs.Lines.{texts_of}
use Rattle.dl_threads.proofs.Slices.{left}
use Rattle.dl_threads.proofs.Commands.{ReadsOn, reads_more, reads_past, reads_all}
use Rattle.dl_threads.proofs.parts.commands_of.Goals as goal
use Rattle.dl_threads.proofs.parts.commands_of.Goals.{in-Some+in_ok-push, in_default}

pub loop-line-preserved : goal.loop-line-preserved
loop-line-preserved c =
    let lines = texts_of c.args.lines.now in
    let line = c.line-item.result.items in
    let rest = texts_of (drop (c.loop-line.line-index + 1) c.args.lines.now) in
    let here : texts_of (drop c.loop-line.line-index c.args.lines.now) ≡ line ∷ rest = ap texts_of (left c.args.lines.now c.loop-line.line-index c.line-item.result (omega arith) c.line-item.is) in
    let before = subst (ReadsOn lines c.loop-line.commands.items) here c.loop-line.invariant in elim c.match-command_of.branch [
      | in-Some+in_ok-push w ↦
          let form = subst (λ o. IfSome o (IsForm (words_of line))) w.in-Some.is (subst (λ t. IfSome c.command_of.result (IsForm (words_of t))) c.as_slice.ensures.value c.command_of.ensures.form) in
          subst (λ cs. ReadsOn lines cs rest) (sym (ap vec_items w.commands-is ∙ w.in_ok-push.ensures.items)) (reads_more lines c.loop-line.commands.items line rest w.in-Some.command before form)
      | in_default w ↦
          subst (λ cs. ReadsOn lines cs rest) (sym (ap vec_items w.commands-is)) (reads_past lines c.loop-line.commands.items line rest before (subst HasNoCommand c.as_slice.ensures.value w.in_default.ensures.none))
    ]

pub returns : goal.returns
returns c =
    let lines = texts_of c.args.lines.now in
    let none : texts_of (drop c.loop-line.line-index c.args.lines.now) ≡ [] = ap texts_of (drop_all c.loop-line.line-index c.args.lines.now (omega (arith, c.loop-line-test.false))) in
    reads_all lines c.loop-line.commands.items (subst (ReadsOn lines c.loop-line.commands.items) none c.loop-line.invariant)
