use Rattle.std.proofs.Common.{[], ◌∷◌, ◌++◌, ℕ, List, None, take, get_or, refl, sym, ap, ◌∙◌, subst, append_assoc, append-nil}
use Rattle.std.proofs.lemmas.List.{take_all}
use Rattle.std.proofs.lemmas.List.Elements.{All-get_or}
use Rattle.dl_types.specs.declared.event.Event.{Event}
use Rattle.dl_wire.specs.Fits.{IsRequest}
use Rattle.dl_serve.specs.declared.held.HeldSync.{HeldSync}
use Rattle.dl_serve.specs.Arranged.{all_held, awaited, held_of, request_of}
use Rattle.dl_serve.specs.Asked.{Chain, IsAsked}
use Rattle.dl_serve.specs.Serve.{IsServed}
use Rattle.dl_serve.specs.Session.{stage_of}
use Rattle.dl_serve.proofs.Arranging.{awaited_more, sync_served}
use Rattle.dl_serve.proofs.Chains.{chain_more}
use Rattle.dl_serve.proofs.session.Session.sync_each.Goals as goal

pub loop-sync-init : goal.loop-sync-init
loop-sync-init g c = ([], (refl, refl), sym (append-nil c.args.self.now.frames.items))

pub loop-sync-preserved : goal.loop-sync-preserved
loop-sync-preserved g c =
    let Z = g.row.A.Denot in
    let state = g.D.Disk.state in
    let d : HeldSync = record { tag = 0; client = record { 0 = 0 }; log = record { text = [] } } in
    let pre = c.loop-sync.invariant in
    let a = c.in_ok-ask.ensures in
    let held = c.args.held.now in
    let i = c.loop-sync.sync-index in
    let sync = get_or held i d in
    let old = stage_of c.args.hub.now c.args.self.now in
    let mid = stage_of c.loop-sync.hub c.loop-sync.self in
    let new = stage_of c.ask.new.hub c.ask.new.self in
    let fits = All-get_or (λ (s : HeldSync). IsRequest (request_of Z s)) held i d c.loop-sync-test.true c.requires in
    let asked = subst (λ (e : Event Z). IsAsked state sync.tag e mid new a.0) c.event.ensures a.1 in (
      pre.0 ++ a.0,
      subst (λ (l : List (List ℕ)). Chain (IsServed {Z = Z} state) l old new (pre.0 ++ a.0)) (sym (awaited_more Z held i d c.loop-sync-test.true))
          (chain_more (IsServed {Z = Z} state) (awaited None (all_held Z (take i held))) old mid new pre.0 (held_of Z sync).text a.0 pre.1 (sync_served state sync mid new a.0 fits asked)),
      a.2 ∙ ap (λ (l : List ℕ). l ++ a.0) pre.2 ∙ append_assoc c.args.self.now.frames.items pre.0 a.0,
    )

pub returns : goal.returns
returns g c =
    let Z = g.row.A.Denot in
    let pre = c.loop-sync.invariant in
    let old = stage_of c.args.hub.now c.args.self.now in
    let new = stage_of c.loop-sync.hub c.loop-sync.self in (
      pre.0,
      subst (λ (l : List HeldSync). Chain (IsServed {Z = Z} g.D.Disk.state) (awaited None (all_held Z l)) old new pre.0) (take_all c.loop-sync.sync-index c.args.held.now c.loop-sync-test.false) pre.1,
      pre.2,
    )
