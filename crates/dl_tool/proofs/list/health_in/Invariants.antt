use Rattle.std.proofs.Common.{◌≡◌, take, map as mapped}
use Rattle.dl_tool.proofs.Words.{is_clean, is_unread, list_all, list_any}
use Rattle.dl_tool.proofs.list.health_in.Given as goal

-- how the logs so far stand
abbrev pub invariant-loop-row : goal.invariant-loop-row
invariant-loop-row l = record {
  clean : l.tally.clean ≡ list_all is_clean (mapped (λ r. r.found) (take l.row-index l.rows));
  unread : l.tally.unread ≡ list_any is_unread (mapped (λ r. r.found) (take l.row-index l.rows));
}
