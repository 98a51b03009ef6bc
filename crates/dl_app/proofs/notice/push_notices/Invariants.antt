use Rattle.std.proofs.Common.{◌≡◌, ◌++◌, ℕ, List, take}
use Rattle.dl_app.specs.Notices.{AreDeliveryTexts}
use Rattle.dl_app.proofs.notice.push_notices.Given as goal

-- the notices so far
abbrev pub invariant-loop-delivery : goal.invariant-loop-delivery
invariant-loop-delivery g l =
    (told : List ℕ) × AreDeliveryTexts (take l.delivery-index l.deliveries) told × (l.text.items ≡ l.fn.text.items ++ told)
