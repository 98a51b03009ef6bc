use Rattle.std.proofs.Common.{◌≡◌, ◌∷◌, take, map as mapped}
use Rattle.dl_tool.specs.declared.table.Entry.TheVariants.{Head, Log}
use Rattle.dl_tool.proofs.columns.entries_of.Given as goal

-- the head, and the logs so far
abbrev pub invariant-loop-row : goal.invariant-loop-row
invariant-loop-row g l = l.entries.items ≡ Head ∷ mapped (λ r. Log r) (take l.row-index l.rows)
