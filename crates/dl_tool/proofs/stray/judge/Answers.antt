use Rattle.std.proofs.Common.{refl}
use Rattle.dl_disk.proofs.Acts.{acts_none}
use Rattle.dl_tool.proofs.Readings.{reads_then}
use Rattle.dl_tool.proofs.Strays.{judged_left}
use Rattle.dl_tool.proofs.stray.judge.Goals as goal

pub returns-clause-reads : goal.returns-clause-reads
returns-clause-reads g c =
    let state = g.D.Disk.state in
    reads_then c.args.file.base (state c.args.disk.now) (state c.args.disk.now) (state c.known_of.new.disk) c.known_of.result _ (acts_none c.args.file.base (state c.args.disk.now)) (λ h. refl) c.known_of.ensures.reads (λ f is. cc)

pub returns-clause-stray : goal.returns-clause-stray
returns-clause-stray g c h =
    judged_left (g.D.Disk.state c.args.disk.now).content c.args.file.base c.args.file.part c.in-Numbered.number c.in_ok-own.own c.leaves_out-is_stray.result c.in-Numbered.is c.in_ok-own.ensures.base (c.in_ok-own.ensures.knows h) c.leaves_out-is_stray.ensures
