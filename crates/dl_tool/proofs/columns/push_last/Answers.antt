use Rattle.std.proofs.Common.{◌≡◌, ◌++◌, ℕ, List, length, sym, ap, ◌∙◌, append-nil, arith}
use Rattle.std.proofs.lemmas.Grind.{common_steps}
use Rattle.dl_tool.specs.declared.table.Column.TheVariants.{State}
use Rattle.dl_tool.specs.Table.{cell, last_text}
use Rattle.dl_tool.proofs.Tables.{last_none}
use Rattle.dl_tool.proofs.columns.push_last.Goals as goal

pub returns-then-is_empty : goal.returns-then-is_empty
returns-then-is_empty g c =
    let text = c.args.text.now.items in
    let own = c.push_cell.new.text.items in
    let none : length own ≡ 0 = grind (arith, common_steps) in
    let is : own ≡ cell State c.args.entry = c.in_ok-push_cell.ensures ∙ ap (λ (l : List ℕ). l ++ cell State c.args.entry) c.new-own.ensures.items in
    sym (ap (λ (l : List ℕ). text ++ l) (ap last_text (sym is) ∙ last_none own none) ∙ append-nil text)
