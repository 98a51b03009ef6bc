use Rattle.std.proofs.Common.{ap, sym, subst, arith}
use Rattle.std.proofs.lemmas.List.Elements.{All-push}
use Rattle.std.specs.Prelude.{All}
use Rattle.dl_threads.specs.declared.part.Part.{Part}
use Rattle.dl_threads.proofs.Slices.{more, whole}
use Rattle.dl_threads.proofs.Promised.{IsAmong, promises, promises_more, played}
use Rattle.dl_threads.proofs.threads.fn.play_clients.scope.Goals as goal

pub loop-client-preserved : goal.loop-client-preserved
loop-client-preserved g c =
    let parts = promises c.loop-client.handles.items in
    let part = c.in_ok-handle.handle.promise in
    let among = IsAmong c.captures.lines.now c.captures.kept in
    let pushed = promises_more c.loop-client.handles.items c.push.new.self.items c.in_ok-handle.handle c.in_ok-push.ensures.items in
    let is = c.in_ok-handle.ensures.ok in record {
      owns = more (λ (p : Part). p.own) c.captures.clients.now c.loop-client.client-index _ parts (promises c.push.new.self.items) part (omega (arith, c.loop-client-test.true)) (ap (λ (p : Part). p.own) is) pushed c.loop-client.invariant.owns;
      among = subst (All among) (sym pushed) (All-push among parts part c.loop-client.invariant.among (ap (λ (p : Part). p.lines.now) is, ap (λ (p : Part). p.kept) is));
    }

pub returns : goal.returns
returns g c =
    let parts = promises c.loop-client.handles.items in
    let owns = whole (λ (p : Part). p.own) c.captures.clients.now c.loop-client.client-index parts (omega (arith, c.loop-client-test.false)) c.loop-client.invariant.owns in
    played c.captures.lines.now c.captures.kept c.captures.clients.now parts c.join_all.result owns c.loop-client.invariant.among c.join_all.ensures
