use Rattle.std.proofs.Common.{◌≡◌, IsTrue, take, map as mapped}
use Rattle.dl_tool.specs.Report.{AreFound}
use Rattle.dl_tool.proofs.list.check_each.Given as goal

-- the logs so far were checked
abbrev pub invariant-loop-log : goal.invariant-loop-log
invariant-loop-log g l = record {
  same : IsTrue (g.D.Disk.state l.disk).honest → (g.D.Disk.state l.disk).content ≡ (g.D.Disk.state l.fn.disk).content;
  stayed : IsTrue (g.D.Disk.state l.disk).honest → IsTrue (g.D.Disk.state l.fn.disk).honest;
  logs : mapped (λ r. r.log) l.rows.items ≡ take l.log-index l.logs;
  finds : IsTrue (g.D.Disk.state l.disk).honest → AreFound g.row.A.Denot (g.D.Disk.state l.fn.disk).content (take l.log-index l.logs) (mapped (λ r. r.found) l.rows.items);
}
