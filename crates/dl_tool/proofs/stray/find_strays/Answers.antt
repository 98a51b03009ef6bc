use Rattle.std.proofs.Common.{◌≡◌, subst, List}
use Rattle.dl_tool.proofs.Words.{ArePicked, Content, FileName}
use Rattle.std.proofs.lemmas.Result.{IfOk-weaker}
use Rattle.dl_tool.proofs.Strays.{only_then, only_uncounted, strays_are}
use Rattle.dl_disk.proofs.Acts.{rises_since}
use Rattle.dl_tool.proofs.stray.find_strays.Goals as goal

pub returns-clause-reads : goal.returns-clause-reads
returns-clause-reads g c =
    let state = g.D.Disk.state in
    let old = state c.args.disk.now in
    let mid = state c.sorted_names.new.disk in
    only_then old mid (state c.strays_in.new.disk) (only_uncounted old mid c.in_ok-names.ensures.device c.in_ok-names.ensures.content) c.strays_in.ensures.reads

pub returns-clause-device : goal.returns-clause-device
returns-clause-device g c f is =
    let state = g.D.Disk.state in
    let old = state c.args.disk.now in
    let mid = state c.sorted_names.new.disk in
    let first = only_uncounted old mid c.in_ok-names.ensures.device c.in_ok-names.ensures.content in
    rises_since (old.faults f.base) (mid.faults f.base) ((state c.strays_in.new.disk).faults f.base) (first.later f.base) (c.strays_in.ensures.device f is)

pub returns-clause-strays : goal.returns-clause-strays
returns-clause-strays g c honest =
    let state = g.D.Disk.state in
    let before = c.strays_in.ensures.reads.stayed honest in
    let content = (state c.args.disk.now).content in
    let names = c.in_ok-names.names.items in
    let same = c.in_ok-names.ensures.content before in
    let are : c.as_slice.result.now ≡ names = c.as_slice.ensures.value in
    let listed = c.in_ok-names.ensures.names before in
    IfOk-weaker c.strays_in.result _ _
    (λ files picked. strays_are content names files.items listed (subst (λ (ns : List FileName). ArePicked content ns files.items) are (subst (λ (m : Content). ArePicked m c.as_slice.result.now files.items) same picked)))
    (c.strays_in.ensures.strays honest)
