use Rattle.std.proofs.Common.{◌≡◌, ◌∷◌, [], List, map, sym, subst, arith}
use Rattle.std.proofs.lemmas.Grind.{common_steps}
use Rattle.dl_server.specs.declared.client.Done.{Done}
use Rattle.dl_threads.specs.Parts.{FillsPart}
use Rattle.dl_threads.proofs.Promised.{FillsOn, fills_more, fills_all}
use Rattle.dl_threads.proofs.threads.join_all.Goals as goal

pub loop-handle-preserved : goal.loop-handle-preserved
loop-handle-preserved g c =
    let all = map (λ handle. handle.promise) c.args.handles.items in
    let rest = map (λ handle. handle.promise) c.next.new.self.rest.items in
    let dones = c.loop-handle.dones.items in
    let steps : c.loop-handle.handle-iterator.rest.items ≡ c.in-Some.handle ∷ c.next.new.self.rest.items = c.in-Some.ensures.steps.0 in
    let plays : FillsPart c.in-Some.handle.promise c.in-Some-join.done = c.in-Some-join.ensures in
    let before = subst (λ handles. FillsOn all dones (map (λ handle. handle.promise) handles)) steps c.loop-handle.invariant in
    subst (λ ds. FillsOn all ds rest) (sym c.in_ok-push.ensures.items) (fills_more all dones c.in-Some.handle.promise rest c.in-Some-join.done before plays)

pub returns : goal.returns
returns g c =
    let all = map (λ handle. handle.promise) c.args.handles.items in
    let none : c.loop-handle.handle-iterator.rest.items ≡ [] = grind (arith, common_steps, c.in-None.ensures.steps) in
    fills_all all c.loop-handle.dones.items (subst (λ handles. FillsOn all c.loop-handle.dones.items (map (λ handle. handle.promise) handles)) none c.loop-handle.invariant)
