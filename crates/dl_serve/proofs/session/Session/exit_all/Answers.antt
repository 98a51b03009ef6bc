use Rattle.std.proofs.Common.{◌++◌, ℕ, List, take, get_or, sym, ap, ◌∙◌, subst, append_assoc}
use Rattle.std.proofs.lemmas.List.{take_more, take_all}
use Rattle.dl_types.specs.declared.event.Event.TheVariants as event
use Rattle.dl_types.specs.declared.name.ClientId.{ClientId}
use Rattle.dl_serve.specs.Asked.{Chain, IsAsked}
use Rattle.dl_serve.specs.Session.{stage_of}
use Rattle.dl_serve.proofs.Chains.{chain_more}
use Rattle.dl_serve.proofs.session.Session.exit_all.Goals as goal

pub loop-client-preserved : goal.loop-client-preserved
loop-client-preserved g c =
    let d : ClientId = record { 0 = 0 } in
    let pre = c.loop-client.invariant in
    let a = c.in_ok-ask.ensures in
    let clients = c.args.clients.now in
    let i = c.loop-client.client-index in
    let old = stage_of c.args.hub.now c.args.self.now in
    let mid = stage_of c.loop-client.hub c.loop-client.self in
    let new = stage_of c.ask.new.hub c.ask.new.self in (
      pre.0 ++ a.0,
      subst (λ (l : List ClientId). Chain (λ client. IsAsked g.D.Disk.state 0 (event.Exit client)) l old new (pre.0 ++ a.0)) (sym (take_more clients i d c.loop-client-test.true))
          (chain_more (λ client. IsAsked g.D.Disk.state 0 (event.Exit client)) (take i clients) old mid new pre.0 (get_or clients i d) a.0 pre.1 a.1),
      a.2 ∙ ap (λ (l : List ℕ). l ++ a.0) pre.2 ∙ append_assoc c.args.self.now.frames.items pre.0 a.0,
    )

pub returns : goal.returns
returns g c =
    let pre = c.loop-client.invariant in
    let old = stage_of c.args.hub.now c.args.self.now in
    let new = stage_of c.loop-client.hub c.loop-client.self in (
      pre.0,
      subst (λ (l : List ClientId). Chain (λ client. IsAsked g.D.Disk.state 0 (event.Exit client)) l old new pre.0) (take_all c.loop-client.client-index c.args.clients.now c.loop-client-test.false) pre.1,
      pre.2,
    )
