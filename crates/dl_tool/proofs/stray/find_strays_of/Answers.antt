use Rattle.std.proofs.Common.{◌≡◌, List, ◌∙◌, ap, subst, filter}
use Rattle.dl_tool.proofs.Words.{ArePicked, Content, FileName, same_base}
use Rattle.std.proofs.lemmas.Result.{IfOk-weaker}
use Rattle.dl_tool.proofs.Strays.{strays_of}
use Rattle.dl_tool.proofs.stray.find_strays_of.Goals as goal

pub returns-clause-strays : goal.returns-clause-strays
returns-clause-strays g c honest =
    let before = c.strays_in.ensures.reads.stayed honest in
    let content = (g.D.Disk.state c.args.disk.now).content in
    let base = c.args.base in
    let names = c.in_ok-names.names.items in
    let same = c.in_ok-names.ensures.content before in
    let listed = c.in_ok-names.ensures.names before in
    let own : c.as_slice-2.result.now ≡ filter (λ f. same_base f.base base) names = c.as_slice-2.ensures.value ∙ c.in_ok-own.ensures ∙ ap (filter (λ f. same_base f.base base)) c.as_slice.ensures.value in
    IfOk-weaker c.strays_in.result _ _
    (λ files picked. strays_of content base names files.items listed (subst (λ (ns : List FileName). ArePicked content ns files.items) own (subst (λ (m : Content). ArePicked m c.as_slice-2.result.now files.items) same picked)))
    (c.strays_in.ensures.strays honest)
