-- What the syncs came to is the answer.
use Rattle.std.proofs.Common.{◌≡◌, ◌++◌, ℕ, List, map, refl, ap, ◌∙◌, subst}
use Rattle.dl_types.specs.declared.name.Name.{Name}
use Rattle.dl_hub.specs.Run.{IsRun}
use Rattle.dl_serve.specs.Synced.{AreSynced, notices_of, sync_event, unsynced_frame, unsynced_of}
use Rattle.dl_serve.specs.Session.{stage_of}
use Rattle.dl_serve.proofs.session.Session.sync_all.Goals as goal

pub returns : goal.returns
returns g c =
    let s = c.in_ok-sync_each.ensures in
    let a = c.in_ok-answer_syncs.ensures in
    let logs = c.in_ok-logs.logs in
    let list : c.as_slice.result.now ≡ logs = c.as_slice.ensures in
    let unsynced : c.sync_each.new.self.unsynced.items ≡ unsynced_of logs s.0 = s.2 ∙ (λ i. c.new-syncs.ensures.0 i ++ unsynced_of (list i) s.0) in
    let notices : c.sync_each.new.self.notices.items ≡ notices_of s.0 = s.3 ∙ ap (λ (l : List ℕ). l ++ notices_of s.0) c.new-syncs.ensures.1 in
    let run = subst (λ (l : List Name). IsRun g.D.Disk.state c.args.hub.now c.sync_each.new.hub (map (sync_event c.args.client) l) s.0) list s.1 in
    let whole : List ℕ = unsynced_frame c.args.tag (unsynced_of logs s.0) ++ notices_of s.0 in
    let done : AreSynced g.D.Disk.state c.args.tag c.args.client c.args.named (stage_of c.args.hub.now c.args.self.now) (stage_of c.sync_each.new.hub c.answer_syncs.new.self) whole = record {
      logs = logs;
      outcomes = s.0;
      meant = c.in_ok-logs.ensures;
      run = run;
      waiting = a.waiting;
      clients = a.clients;
      whole = refl;
    } in
    (whole, done, a.frames ∙ (λ i. c.args.self.now.frames.items ++ (unsynced_frame c.args.tag (unsynced i) ++ notices i)))
