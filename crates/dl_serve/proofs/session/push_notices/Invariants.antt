use Rattle.std.proofs.Common.{◌≡◌, ◌++◌, take}
use Rattle.std.specs.List.{flat_map}
use Rattle.dl_serve.specs.Asked.{notice_frame}
use Rattle.dl_serve.proofs.session.push_notices.Given as goal

abbrev pub invariant-loop-delivery : goal.invariant-loop-delivery
invariant-loop-delivery g l = l.frames.items ≡ l.fn.frames.items ++ flat_map notice_frame (take l.delivery-index l.deliveries)
