use Rattle.std.proofs.Common.{◌≡◌, refl, ap}
use Rattle.std.specs.Prelude.{⊤}
use Rattle.std.specs.Io.KnownBytes.{Appends}
use Rattle.dl_app.specs.Answers.{IsLineOf}
use Rattle.dl_app.specs.Notices.{IsOutcomeText}
use Rattle.dl_app.specs.Places.{place_of}
use Rattle.dl_app.specs.Script.{IsStepped, Stage}
use Rattle.dl_app.specs.Session.{stage_of}
use Rattle.dl_app.proofs.Scripts.{answers_so, known_of}
use Rattle.dl_app.proofs.script.Session.step.Goals as goal

pub returns-clause-done : goal.returns-clause-done
returns-clause-done g c =
    let D = g.D.Disk in
    let outcome = c.step-outcome.result in
    let old = stage_of c.args.hub.now c.args.self.now in
    let new : Stage g.row.D.Denot = record { hub = c.step-outcome.new.self; places = place_of c.answer.new.self.places } in
    let same = ap place_of c.answer.ensures.places in
    answers_so c.answer.result (IsLineOf (IsOutcomeText outcome)) (IsStepped D.state g.row.A.Denot c.args.event old new)
    (Appends (g.W.Write.contents c.args.output.now) (g.W.Write.contents c.answer.new.output)) (place_of c.answer.new.self.places ≡ place_of c.args.self.now.places)
    c.answer.ensures.written (known_of c.answer.result _ same)
    (λ kept answer line. (outcome, record { run = (c.step-outcome.new.self, c.step-outcome.ensures.step, refl); line = line }, kept))
