use Rattle.std.proofs.Common.{◌≡◌, ◌++◌, List, IsTrue, take}
use Rattle.std.specs.List.{list_all, list_any, flat_map}
use Rattle.dl_tool.specs.declared.finding.Finding.{Finding}
use Rattle.dl_tool.specs.Report.{is_clean, is_unread, Tells}
use Rattle.dl_tool.specs.Losses.{torn_file}
use Rattle.dl_tool.proofs.report.check_logs.Given as goal

-- the logs so far were reported
abbrev pub invariant-loop-log : goal.invariant-loop-log
invariant-loop-log g l = record {
  same : IsTrue (g.D.Disk.state l.disk).honest → (g.D.Disk.state l.disk).content ≡ (g.D.Disk.state l.fn.disk).content;
  stayed : IsTrue (g.D.Disk.state l.disk).honest → IsTrue (g.D.Disk.state l.fn.disk).honest;
  found : List Finding;
  clean : l.tally.clean ≡ list_all is_clean found;
  unread : l.tally.unread ≡ list_any is_unread found;
  torn : l.torn.items ≡ l.fn.torn.items ++ flat_map torn_file found;
  told : Tells g.row.A.Denot l.style (g.D.Disk.state l.fn.disk) (g.D.Disk.state l.disk) (take l.log-index l.logs) found (g.W.Write.contents l.fn.output) (g.W.Write.contents l.output);
}
