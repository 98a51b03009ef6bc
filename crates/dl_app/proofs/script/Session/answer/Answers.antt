use Rattle.std.proofs.Common.{sym, subst}
use Rattle.std.specs.Io.KnownBytes.{Appends}
use Rattle.dl_app.specs.Answers.{IsLineOf}
use Rattle.dl_app.specs.Notices.{IsOutcomeText}
use Rattle.dl_app.proofs.Scripts.{answered}
use Rattle.dl_app.proofs.script.Session.answer.Goals as goal

pub returns-clause-written : goal.returns-clause-written
returns-clause-written g c =
    let outcome = c.args.outcome.now in
    answered c.write_answer.result (IsLineOf (IsOutcomeText outcome)) (Appends (g.W.Write.contents c.args.output.now) (g.W.Write.contents c.write_answer.new.output)) c.as_slice.result.now
    (subst (IsLineOf (IsOutcomeText outcome)) (sym c.as_slice.ensures.value) c.in_ok-put_outcome.ensures.line) c.write_answer.ensures.written
