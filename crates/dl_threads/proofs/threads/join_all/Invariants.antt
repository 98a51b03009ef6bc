-- The parts before the rest were played.
use Rattle.std.proofs.Common.{map}
use Rattle.dl_threads.proofs.Promised.{FillsOn}
use Rattle.dl_threads.proofs.threads.join_all.Given as goal

abbrev pub invariant-loop-handle : goal.invariant-loop-handle
invariant-loop-handle g l = FillsOn (map (λ handle. handle.promise) l.fn.handles.items) l.dones.items (map (λ handle. handle.promise) l.handle-iterator.rest.items)
