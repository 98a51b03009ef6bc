use Rattle.std.proofs.Common.{◌≡◌, true, List, Option, Some, None, OnOk, [], refl, sym, subst, append-nil}
use Rattle.dl_types.specs.declared.call.Call.{Call}
use Rattle.dl_types.specs.declared.name.ClientId.{ClientId}
use Rattle.dl_types.specs.declared.refusal.Refusal.{Refusal}
use Rattle.dl_app.specs.Command.{call_in, refusal_in}
use Rattle.dl_app.specs.Places.{place_of}
use Rattle.dl_app.proofs.Scripts.{called_is, refused_is}
use Rattle.dl_server.specs.declared.client.Did.{Did}
use Rattle.dl_threads.specs.Played.{MakesCall, MakesUnless, GoesOn}
use Rattle.dl_threads.proofs.client.make.Goals as goal

pub returns-in-Ok-clause-made : goal.returns-in-Ok-clause-made
returns-in-Ok-clause-made g c =
    let old = c.args.client.now in
    let new = c.make_call.new.client in
    let before = place_of c.args.places.now in
    let after = place_of c.make_call.new.places in
    let call = call_in c.args.request.now (before old.id c.args.log) in
    let is : refusal_in c.args.request.now ≡ None = called_is (refusal_in c.args.request.now) c.in-Ok.call c.in-Ok.ensures.refused in
    let same : c.in-Ok.call ≡ call = subst (λ (i : ClientId). c.in-Ok.call ≡ call_in c.args.request.now (before i c.args.log)) c.id.ensures c.in-Ok.ensures.call in
    subst (λ (o : Option Refusal). OnOk c.make_call.result (old.kept ≡ true → (did : List (Did _)) × MakesUnless o old.id c.args.log call before did after × GoesOn old did new)) (sym is)
    (subst (λ (k : Call _). OnOk c.make_call.result (old.kept ≡ true → (did : List (Did _)) × MakesCall old.id c.args.log k before did after × GoesOn old did new)) same
    c.make_call.ensures.made)

pub returns-in-Err-Refused-clause-made : goal.returns-in-Err-Refused-clause-made
returns-in-Err-Refused-clause-made g c =
    let old = c.args.client.now in
    let before = place_of c.args.places.now in
    let call = call_in c.args.request.now (before old.id c.args.log) in
    let refusal = c.in-Err-Refused.field-0-0 in
    let is : refusal_in c.args.request.now ≡ Some refusal =
    refused_is _ (refusal_in c.args.request.now) _ refusal c.in-Err-Refused.field-0-is c.in-Err-Refused.ensures.refused c.in-Err-Refused.ensures.memory in
    λ kept. ([], subst (λ (o : Option Refusal). MakesUnless o old.id c.args.log call before [] before) (sym is) (refl, refl), sym (append-nil old.did))
