use Rattle.std.proofs.Common.{◌≡◌, List, true, false, eqb, length, sym, ap, ◌∙◌, subst, rules}
use Rattle.dl_types.specs.declared.name.Name.{Name}
use Rattle.dl_serve.specs.Synced.{AreOpen}
use Rattle.dl_serve.proofs.Syncing.{meant_named, meant_open}
use Rattle.dl_serve.proofs.sync_all.meant.Goals as goal

pub returns-then-is_empty : goal.returns-then-is_empty
returns-then-is_empty g c =
    let hub = c.args.hub.now in
    let yes : c.is_empty.result ≡ true = search rules in
    let none : eqb (length c.args.named) 0 ≡ true = ap (λ (l : List Name). eqb (length l) 0) (sym c.as_slice.ensures) ∙ sym c.is_empty.ensures ∙ yes in
    let all = c.in_ok-names.ensures in
    let found : AreOpen hub c.in_ok-names.names.items = record { each = all.each; once = all.once; order = all.order } in
    meant_open hub c.args.named c.of.result none (subst (λ (l : List Name). AreOpen hub l) (sym c.of.ensures) found)

pub returns : goal.returns
returns g c =
    let no : c.is_empty.result ≡ false = search rules in
    meant_named c.args.hub.now c.args.named (ap (λ (l : List Name). eqb (length l) 0) (sym c.as_slice.ensures) ∙ sym c.is_empty.ensures ∙ no)
