use Rattle.std.proofs.Common.{rules, ◌≡◌, ◌∙◌, List, ℕ, Option, Some, Ok, Err, Result, OnOk, IfSome, false, inr, sym, subst}
use Rattle.std.specs.Io.KnownBytes.{Appends}
use Rattle.dl_types.specs.declared.event.Event.TheVariants as event
use Rattle.dl_app.specs.declared.command.Command.{Command}
use Rattle.dl_app.specs.declared.command.Command.TheVariants.{Exit, Flush}
use Rattle.dl_app.specs.Command.{IsForm}
use Rattle.dl_app.specs.Lines.{is_passed_over}
use Rattle.dl_app.specs.Words.{words_of}
use Rattle.dl_app.specs.Script.{IsLine, IsStepped}
use Rattle.dl_app.specs.Session.{stage_of}
use Rattle.dl_app.proofs.script.Session.run_line.Goals as goal

-- what holds on success, and what follows from it
on_ok : {A E : Type 0} (r : Result A E) (P Q : Type 0) → (P → Q) → OnOk r P → OnOk r Q
on_ok (Ok x) P Q f p = f p
on_ok (Err e) P Q f p = tt

pub returns-in-Exit-clause-done : goal.returns-in-Exit-clause-done
returns-in-Exit-clause-done g c =
    let D = g.D.Disk in
    let Z = g.row.A.Denot in
    let line = c.args.line.now in
    let old = stage_of c.args.hub.now c.args.self.now in
    let new = stage_of c.step.new.hub c.step.new.self in
    let written = λ (answer : List ℕ). Appends (g.W.Write.contents c.args.output.now) (g.W.Write.contents c.step.new.output) answer in
    let read : c.command_of.result ≡ Some (Exit c.in-Exit.client) = search rules in
    let form : IsForm (words_of line) (Exit c.in-Exit.client) = subst (λ (o : Option Command). IfSome o (λ command. IsForm (words_of line) command)) read c.command_of.ensures.form in
    let asks : is_passed_over line ≡ false = sym c.is_passed_over.ensures ∙ c.if-is_passed_over.false in
    on_ok c.step.result ((answer : List ℕ) × IsStepped D.state Z (event.Exit c.in-Exit.client) old new answer × written answer) ((answer : List ℕ) × IsLine D.state Z line old new answer × written answer)
    (λ done. (done.0, inr (asks, (Exit c.in-Exit.client, form, done.1)), done.2)) c.step.ensures.done

pub returns-in-Flush-clause-done : goal.returns-in-Flush-clause-done
returns-in-Flush-clause-done g c =
    let D = g.D.Disk in
    let Z = g.row.A.Denot in
    let line = c.args.line.now in
    let step = c.step-in-Flush in
    let old = stage_of c.args.hub.now c.args.self.now in
    let new = stage_of step.new.hub step.new.self in
    let written = λ (answer : List ℕ). Appends (g.W.Write.contents c.args.output.now) (g.W.Write.contents step.new.output) answer in
    let read : c.command_of.result ≡ Some Flush = search rules in
    let form : IsForm (words_of line) Flush = subst (λ (o : Option Command). IfSome o (λ command. IsForm (words_of line) command)) read c.command_of.ensures.form in
    let asks : is_passed_over line ≡ false = sym c.is_passed_over.ensures ∙ c.if-is_passed_over.false in
    on_ok step.result ((answer : List ℕ) × IsStepped D.state Z event.Flush old new answer × written answer) ((answer : List ℕ) × IsLine D.state Z line old new answer × written answer)
    (λ done. (done.0, inr (asks, (Flush, form, done.1)), done.2)) step.ensures.done
