use Rattle.std.proofs.Common.{◌≡◌, sym, subst, ap, ◌∙◌, List, filter, false}
use Rattle.dl_tool.proofs.Words.{FileName, list_any, main_file, same_base}
use Rattle.dl_types.specs.contracts.file.FileNamePartialEq.TheImpl.{ghosts as file_ghosts}
use Rattle.dl_tool.specs.Begin.{AreInWay}
use Rattle.dl_tool.proofs.Begins.{own_in_way}
use Rattle.dl_tool.proofs.begin.files_in_way.Goals as goal

pub returns-clause-files : goal.returns-clause-files
returns-clause-files g c honest =
    let content = (g.D.Disk.state c.args.disk.now).content in
    let log = c.args.log in
    let names = c.in_ok-names.names.items in
    let are : c.in-Ok.files.items ≡ filter (λ f. same_base f.base log.base) names = c.in-Ok.ensures ∙ ap (filter (λ f. same_base f.base log.base)) c.as_slice.ensures.value in
    let absent : list_any (λ x. file_ghosts.eq x (main_file log)) names ≡ false =
    subst (λ (ns : List FileName). list_any (λ x. file_ghosts.eq x (main_file log)) ns ≡ false) c.deref.ensures.value
    (subst (λ (m : FileName). list_any (λ x. file_ghosts.eq x m) c.deref.result.now ≡ false) c.main_file.ensures (sym c.if-contains.ensures.value)) in
    subst (λ (files : List FileName). AreInWay content log files) (sym are) (own_in_way content log names (c.in_ok-names.ensures.names honest) absent)
