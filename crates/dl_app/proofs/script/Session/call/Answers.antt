use Rattle.std.proofs.Common.{◌≡◌, ℕ, List, Option, Some, None, OnOk, refl, sym, subst}
use Rattle.std.specs.Io.KnownBytes.{Appends}
use Rattle.dl_types.specs.declared.call.Call.{Call}
use Rattle.dl_types.specs.declared.refusal.Refusal.{Refusal}
use Rattle.dl_app.specs.Answers.{IsLineOf, IsRefusalText}
use Rattle.dl_app.specs.Command.{call_in, refusal_in}
use Rattle.dl_app.specs.Places.{place_of}
use Rattle.dl_app.specs.Script.{IsCalled}
use Rattle.dl_app.specs.Session.{stage_of}
use Rattle.dl_app.proofs.Scripts.{answered, called_is, refused_is}
use Rattle.dl_app.proofs.script.Session.call.Goals as goal

pub returns-in-Ok-clause-done : goal.returns-in-Ok-clause-done
returns-in-Ok-clause-done g c =
    let D = g.D.Disk in
    let Z = g.row.A.Denot in
    let old = stage_of c.args.hub.now c.args.self.now in
    let new = stage_of c.run_call.new.hub c.run_call.new.self in
    let written = λ (answer : List ℕ). Appends (g.W.Write.contents c.args.output.now) (g.W.Write.contents c.run_call.new.output) answer in
    let call = call_in {Z = Z} c.args.request.now (place_of c.args.self.now.places c.args.client c.args.log) in
    let is : refusal_in c.args.request.now ≡ None = called_is (refusal_in c.args.request.now) c.in-Ok.call c.in-Ok.ensures.refused in
    let same : c.in-Ok.call ≡ call = c.in-Ok.ensures.call in
    subst (λ (o : Option Refusal). OnOk c.run_call.result ((answer : List ℕ) × IsCalled D.state Z o c.args.client c.args.log call old new answer × written answer)) (sym is)
    (subst (λ (k : Call Z). OnOk c.run_call.result ((answer : List ℕ) × IsCalled D.state Z None c.args.client c.args.log k old new answer × written answer)) same
    c.run_call.ensures.done)

pub returns-in_ok-put_refusal-in-Err-Refused-clause-done :
    goal.returns-in_ok-put_refusal-in-Err-Refused-clause-done
returns-in_ok-put_refusal-in-Err-Refused-clause-done g c =
    let D = g.D.Disk in
    let refusal = c.in-Err-Refused.refusal in
    let is : refusal_in c.args.request.now ≡ Some refusal =
    refused_is _ (refusal_in c.args.request.now) _ refusal c.in-Err-Refused.field-0-is c.in-Err-Refused.ensures.refused c.in-Err-Refused.ensures.memory in
    let old = stage_of c.args.hub.now c.args.self.now in
    let call = call_in {Z = g.row.A.Denot} c.args.request.now (place_of c.args.self.now.places c.args.client c.args.log) in
    let line = subst (IsLineOf (IsRefusalText refusal)) (sym c.as_slice.ensures.value) (subst (λ (x : Refusal). IsLineOf (IsRefusalText x) c.put_refusal.new.line.items) c.in-Err-Refused.refusal-is c.in_ok-put_refusal-in-Err-Refused.ensures.line) in
    answered c.write_answer.result (IsCalled D.state g.row.A.Denot (refusal_in c.args.request.now) c.args.client c.args.log call old old)
    (Appends (g.W.Write.contents c.args.output.now) (g.W.Write.contents c.write_answer.new.output)) c.as_slice.result.now
    (subst (λ (o : Option Refusal). IsCalled D.state g.row.A.Denot o c.args.client c.args.log call old old c.as_slice.result.now) (sym is) (refl, line))
    c.write_answer.ensures.written
