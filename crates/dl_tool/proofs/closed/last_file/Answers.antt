use Rattle.std.proofs.Common.{◌≡◌, Some, sym, ◌∙◌, ap, subst, ◌↔◌}
use Rattle.dl_tool.proofs.Words.{Base, FileName, index_of, IsNamed, Kind, Named, Wrap}
use Rattle.dl_tool.specs.declared.closed.LastFile.{LastFile}
use Rattle.dl_tool.specs.Closed.{wrap_last, IsLastOf}
use Rattle.dl_tool.proofs.Closeds.{current_last}
use Rattle.dl_tool.proofs.closed.last_file.Goals as goal

pub returns-clause-last : goal.returns-clause-last
returns-clause-last g c honest f =
    let content = (g.D.Disk.state c.args.disk.now).content in
    let base = c.args.log.base in
    let own = subst (λ (b : Base). IsNamed (index_of content b) c.in_ok-known.known.named) c.in_ok-known.ensures.base (c.in_ok-known.ensures.knows honest) in
    let named = subst (λ (k : Named g.row.A.Denot). IsNamed (index_of content base) k) c.in-Index.is own in
    let last = current_last content base c.in-Index.index named.0 named.1 named.2 f in
    let found : LastFile = record { file = c.numbered.result; generation = Some c.current-current.result.generation } in
    let is : found ≡ wrap_last base c.current-current.result = ap (λ (x : FileName). record { file = x; generation = Some c.current-current.result.generation }) c.numbered.ensures in
    let now : found ≡ _ = is ∙ ap (wrap_last base) c.current-current.ensures.same in
    subst (λ (k : Kind). (Some found ≡ Some f) ↔ IsLastOf k content base f) (sym c.in-Wrap.is) (subst (λ (x : LastFile). (Some x ≡ Some f) ↔ IsLastOf Wrap content base f) (sym now) last)
