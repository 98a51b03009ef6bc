use Rattle.std.proofs.Common.{◌≡◌, None, refl}
use Rattle.std.specs.Io.KnownBytes.{Appends}
use Rattle.dl_app.specs.Answers.{IsLineOf}
use Rattle.dl_app.specs.Notices.{IsOutcomeText}
use Rattle.dl_app.specs.Places.{place_of, places_after}
use Rattle.dl_app.specs.Script.{IsCalled, Stage}
use Rattle.dl_app.specs.Session.{stage_of}
use Rattle.dl_app.proofs.Scripts.{answers_so}
use Rattle.dl_app.proofs.script.Session.run_call.Goals as goal

pub returns-clause-done : goal.returns-clause-done
returns-clause-done g c =
    let D = g.D.Disk in
    let outcome = c.apply-outcome.result in
    let old = stage_of c.args.hub.now c.args.self.now in
    let new : Stage g.row.D.Denot = record { hub = c.apply-outcome.new.self; places = place_of c.answer_call.new.self.places } in
    answers_so c.answer_call.result (IsLineOf (IsOutcomeText outcome)) (IsCalled D.state g.row.A.Denot None c.args.client c.args.log c.args.call old new)
    (Appends (g.W.Write.contents c.args.output.now) (g.W.Write.contents c.answer_call.new.output)) (place_of c.answer_call.new.self.places ≡ places_after outcome.reply c.args.client c.args.log (place_of c.args.self.now.places))
    c.answer_call.ensures.written c.answer_call.ensures.places
    (λ kept answer line. (outcome, record { run = (c.apply-outcome.new.self, c.apply-outcome.ensures, refl); line = line }, kept))
