use Rattle.std.proofs.Common.{take}
use Rattle.dl_digest.specs.Compare.{AreCompared}
use Rattle.dl_digest.proofs.compare.compare_lines.Given as goal

-- the lines so far were compared
abbrev pub invariant-loop-line : goal.invariant-loop-line
invariant-loop-line g l = AreCompared g.D.Disk.state g.row.A.Denot l.log l.kind l.now l.lines (take l.line-index l.lines) l.compared.items l.fn.hub l.hub
