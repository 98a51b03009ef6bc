use Rattle.std.proofs.Common.{rules, ◌≡◌, [], sym, ◌∙◌, subst}
use Rattle.dl_tool.proofs.Words.{Content, FileName, Found, OpensAs}
use Rattle.std.specs.FinMap as map
use Rattle.dl_file.specs.File.{Holds}
use Rattle.dl_file.specs.Open.{IsOwn}
use Rattle.dl_tool.proofs.LastItems.{found_file, found_head, found_holds, losses_are}
use Rattle.dl_tool.proofs.losses.find_losses.Goals as goal

pub returns-in_ok-last_is_zeros-in-File-clause-losses : goal.returns-in_ok-last_is_zeros-in-File-clause-losses
returns-in_ok-last_is_zeros-in-File-clause-losses g c h says items bad within reads =
    let state = g.D.Disk.state in
    let Z = g.row.A.Denot in
    let file = c.args.file in
    let opened = c.in-File.opened in
    let head = c.in-File.head in
    let content = (state c.args.disk.now).content in
    let before = c.last_is_zeros.ensures.reads.acts.stayed h in
    let same : (state c.know.new.self).content ≡ content = c.in-Ok-know.ensures.content in
    let found = subst (λ (m : Content). OpensAs {Z = Z} (map.get m file) c.in-Ok-open.found) same (c.in-Ok-open.ensures.opened before) in
    let is = subst (λ (f : Found Z). OpensAs {Z = Z} (map.get content file) f) c.in-File.is found in
    let own = subst (λ (f : Found Z). IsOwn {Z = Z} file c.in-Ok.chain f) c.in-File.is c.in-Ok-open.ensures.own in
    let held = found_holds Z (map.get content file) opened head says c.in-File.bad bad items is reads in
    let whole : (state c.open.new.disk).content ≡ content = c.open.ensures.reads.same before ∙ same in
    let there = subst (λ (m : Content). Holds opened (map.get m file) [] items) (sym whole) held in
    losses_are head says items c.count-items.result c.counted_other.result c.in_ok-last_is_zeros-in-File.field-0
    (found_head Z (map.get content file) opened head says c.in-File.bad bad items is reads)
    (c.count-items.ensures.value ∙ held.count)
    c.counted_other.ensures
    (c.in_ok-last_is_zeros-in-File.ensures.zeros h items (subst (λ (f : FileName). Holds opened (map.get (state c.open.new.disk).content f) [] items) (sym own.file) there))

pub returns-in_default-found : goal.returns-in_default-found
returns-in_default-found g c =
    let state = g.D.Disk.state in
    let Z = g.row.A.Denot in
    let file = c.args.file in
    let content = (state c.args.disk.now).content in
    let same : (state c.know.new.self).content ≡ content = c.in-Ok-know.ensures.content in
    record {
      reads = search rules;
      losses = λ h says items bad within reads.
          let found = subst (λ (m : Content). OpensAs {Z = Z} (map.get m file) c.in-Ok-open.found) same (c.in-Ok-open.ensures.opened h) in
          absurd (found_file (map.get content file) c.in-Ok-open.found says items bad c.in_default-found.not-File found within reads);
    }
