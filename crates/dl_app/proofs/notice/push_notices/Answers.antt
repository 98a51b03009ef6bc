use Rattle.std.proofs.Common.{[], ◌∷◌, ◌++◌, List, take, sym, ap, ◌∙◌, subst}
use Rattle.std.proofs.lemmas.List.{take_more}
use Rattle.dl_types.specs.Notice.{Told}
use Rattle.dl_app.specs.Notices.{AreDeliveryTexts}
use Rattle.dl_app.proofs.Told.{grows, one_more}
use Rattle.dl_app.proofs.notice.push_notices.Goals as goal

pub loop-delivery-preserved : goal.loop-delivery-preserved
loop-delivery-preserved g c =
    let told = c.loop-delivery.invariant in
    let more = c.in_ok-push_delivery.ensures.text in
    let before = take c.loop-delivery.delivery-index c.args.deliveries.now in
    let item = c.delivery-item.result in
    let so_far = take_more c.args.deliveries.now c.loop-delivery.delivery-index item c.loop-delivery-test.true ∙ ap (λ (d : Told). before ++ d ∷ []) (sym c.delivery-item.is) in (
      told.0 ++ more.0,
      subst (λ (l : List Told). AreDeliveryTexts l (told.0 ++ more.0)) (sym so_far) (one_more before item told.0 more.0 told.1 more.1),
      grows c.args.text.now.items c.loop-delivery.text.items c.push_delivery.new.text.items told.0 more.0 told.2 more.2,
    )
