use Rattle.std.proofs.Common.{ℕ, List, ◌++◌, take}
use Rattle.dl_digest.specs.Digest.{Holds}
use Rattle.dl_digest.proofs.digest.Hashing.add.Given as goal

-- the items so far were taken
abbrev pub invariant-loop-item : goal.invariant-loop-item
invariant-loop-item g l = (taken : List (List ℕ)) → Holds l.fn.self taken → Holds l.self (taken ++ take l.item-index l.items)
