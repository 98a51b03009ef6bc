use Rattle.std.proofs.Common.{◌≡◌, ◌++◌, [], List, true, false, sym, ap, ◌∙◌, append-nil, rules}
use Rattle.dl_wire.specs.declared.unsynced.Unsynced.{Unsynced}
use Rattle.dl_serve.specs.Event.{is_done}
use Rattle.dl_serve.proofs.Syncing.{unsynced_none, unsynced_one}
use Rattle.dl_serve.proofs.sync_all.Syncs.sync_log.Goals as goal

pub returns-then-is_done : goal.returns-then-is_done
returns-then-is_done g c =
    let o = c.apply-reply.result in
    let was = c.args.self.now.unsynced.items in
    let yes : is_done o.reply ≡ true = search rules in (
      o,
      c.apply-reply.ensures,
      sym (append-nil was) ∙ ap (λ (l : List (Unsynced g.row.A.Denot)). was ++ l) (unsynced_none c.args.log o.reply yes),
      search rules,
    )

pub returns : goal.returns
returns g c =
    let o = c.apply-reply.result in
    let was = c.args.self.now.unsynced.items in
    let no : is_done o.reply ≡ false = search rules in (
      o,
      c.apply-reply.ensures,
      c.in_ok-push.ensures.items ∙ ap (λ (l : List (Unsynced g.row.A.Denot)). was ++ l) (unsynced_one c.args.log o.reply no),
      search rules,
    )
