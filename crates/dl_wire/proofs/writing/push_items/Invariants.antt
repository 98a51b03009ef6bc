use Rattle.std.proofs.Common.{◌≡◌, ◌++◌, length, take}
use Rattle.std.specs.List.{flat_map}
use Rattle.dl_wire.specs.Parts.{u32_text, bytes_text}
use Rattle.dl_wire.proofs.writing.push_items.Given as goal

abbrev pub invariant-loop-item : goal.invariant-loop-item
invariant-loop-item g l = l.out.items ≡ l.fn.out.items ++ (u32_text (length l.items) ++ flat_map bytes_text (take l.item-index l.items))
