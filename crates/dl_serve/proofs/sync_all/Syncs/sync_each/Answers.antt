use Rattle.std.proofs.Common.{◌≡◌, ◌+◌, ◌++◌, [], ◌∷◌, ℕ, List, map, take, get_or, refl, sym, ap, ◌∙◌, subst, append_assoc, append-nil}
use Rattle.std.specs.List.{flat_map}
use Rattle.std.proofs.lemmas.List.{map-append, take_more, take_all}
use Rattle.dl_types.specs.declared.event.Event.{Event}
use Rattle.dl_types.specs.declared.name.Name.{Name}
use Rattle.dl_types.specs.declared.reply.Outcome.{Outcome}
use Rattle.dl_hub.specs.Run.{IsRun}
use Rattle.dl_hub.proofs.Runs.{run_more}
use Rattle.dl_wire.specs.declared.unsynced.Unsynced.{Unsynced}
use Rattle.dl_serve.specs.Asked.{notice_frame}
use Rattle.dl_serve.specs.Synced.{notices_of, sync_event, unsynced_by, unsynced_of}
use Rattle.dl_serve.proofs.Syncing.{notices_more, unsynced_more}
use Rattle.dl_serve.proofs.sync_all.Syncs.sync_each.Goals as goal

pub loop-log-init : goal.loop-log-init
loop-log-init g c = ([], refl, sym (append-nil c.args.self.now.unsynced.items), sym (append-nil c.args.self.now.notices.items))

pub loop-log-preserved : goal.loop-log-preserved
loop-log-preserved g c =
    let Z = g.row.A.Denot in
    let state = g.D.Disk.state in
    let d : Name = record { text = [] } in
    let pre = c.loop-log.invariant in
    let a = c.in_ok-sync_log.ensures in
    let logs = c.args.logs.now in
    let i = c.loop-log.log-index in
    let log = get_or logs i d in
    let front = take i logs in
    let was = c.args.self.now in
    let sync : Name → Event Z = sync_event c.args.client in
    let told : List ℕ = flat_map notice_frame a.0.notices in
    let more : take (i + 1) logs ≡ front ++ log ∷ [] = take_more logs i d c.loop-log-test.true in
    let events : map sync (take (i + 1) logs) ≡ map sync front ++ sync log ∷ [] = ap (λ (l : List Name). map sync l) more ∙ map-append sync front (log ∷ []) in (
      pre.0 ++ a.0 ∷ [],
      subst (λ (l : List (Event Z)). IsRun state c.args.hub.now c.sync_log.new.hub l (pre.0 ++ a.0 ∷ [])) (sym events)
          (run_more state c.args.hub.now c.loop-log.hub c.sync_log.new.hub (map sync front) pre.0 (sync log) a.0 pre.1 a.1),
      a.2 ∙ ap (λ (l : List (Unsynced Z)). l ++ unsynced_by log a.0.reply) pre.2 ∙ append_assoc was.unsynced.items (unsynced_of front pre.0) (unsynced_by log a.0.reply)
          ∙ ap (λ (l : List (Unsynced Z)). was.unsynced.items ++ l) (sym (unsynced_more state c.args.client front pre.0 log a.0 c.args.hub.now c.loop-log.hub pre.1) ∙ ap (λ (l : List Name). unsynced_of l (pre.0 ++ a.0 ∷ [])) (sym more)),
      a.3 ∙ ap (λ (l : List ℕ). l ++ told) pre.3 ∙ append_assoc was.notices.items (notices_of pre.0) told
          ∙ ap (λ (l : List ℕ). was.notices.items ++ l) (sym (notices_more pre.0 a.0)),
    )

pub returns : goal.returns
returns g c =
    let pre = c.loop-log.invariant in
    let all = take_all c.loop-log.log-index c.args.logs.now c.loop-log-test.false in (
      pre.0,
      subst (λ (l : List Name). IsRun g.D.Disk.state c.args.hub.now c.loop-log.hub (map (sync_event c.args.client) l) pre.0) all pre.1,
      pre.2 ∙ ap (λ (l : List Name). c.args.self.now.unsynced.items ++ unsynced_of l pre.0) all,
      pre.3,
    )
