use Rattle.std.proofs.Common.{◌≡◌, ◌++◌, take}
use Rattle.std.specs.List.{flat_map}
use Rattle.dl_app.specs.Answers.{item_text}
use Rattle.dl_app.proofs.answer.push_items.Given as goal

-- the items so far
abbrev pub invariant-loop-item : goal.invariant-loop-item
invariant-loop-item g l = l.text.items ≡ l.fn.text.items ++ flat_map item_text (take l.item-index l.items)
