use Rattle.std.proofs.Common.{◌≡◌, ◌++◌, List, map, take}
use Rattle.dl_types.specs.declared.reply.Outcome.{Outcome}
use Rattle.dl_hub.specs.Run.{IsRun}
use Rattle.dl_serve.specs.Synced.{notices_of, sync_event, unsynced_of}
use Rattle.dl_serve.proofs.sync_all.Syncs.sync_each.Given as goal

abbrev pub invariant-loop-log : goal.invariant-loop-log
invariant-loop-log g l =
    (outcomes : List (Outcome g.row.A.Denot)) × IsRun g.D.Disk.state l.fn.hub l.hub (map (sync_event l.client) (take l.log-index l.logs)) outcomes
    × (l.self.unsynced.items ≡ l.fn.self.unsynced.items ++ unsynced_of (take l.log-index l.logs) outcomes) × (l.self.notices.items ≡ l.fn.self.notices.items ++ notices_of outcomes)
