use Rattle.std.proofs.Common.{◌≡◌, take, length}
use Rattle.dl_settle.proofs.replies.same_owners.Given as goal

abbrev pub invariant-loop-i : goal.invariant-loop-i
invariant-loop-i l = record { same : take l.i l.a ≡ take l.i l.b; long : length l.a ≡ length l.b }
