use Rattle.std.proofs.Common.{take, IfSome, IsTrue}
use Rattle.dl_tool.specs.Named.{Knows}
use Rattle.dl_tool.specs.Reads.{OnlyReads}
use Rattle.dl_tool.specs.Stray.{ArePicked}
use Rattle.dl_tool.proofs.stray.strays_in.Given as goal

-- the strays of the files so far
abbrev pub invariant-loop-name : goal.invariant-loop-name
invariant-loop-name g l = record {
  reads : OnlyReads (g.D.Disk.state l.fn.disk) (g.D.Disk.state l.disk);
  knows : IsTrue (g.D.Disk.state l.disk).honest → IfSome l.known (Knows (g.D.Disk.state l.fn.disk).content);
  picked : IsTrue (g.D.Disk.state l.disk).honest → ArePicked (g.D.Disk.state l.fn.disk).content (take l.name-index l.names) l.files.items;
}
