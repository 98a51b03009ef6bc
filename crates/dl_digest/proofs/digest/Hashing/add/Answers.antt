use Rattle.std.proofs.Common.{◌≡◌, ◌+◌, ◌++◌, ◌∷◌, [], ℕ, List, take, sym, ap, ◌∙◌, subst, append_assoc}
use Rattle.std.proofs.lemmas.List.{take_more}
use Rattle.dl_digest.specs.Digest.{Holds}
use Rattle.dl_digest.proofs.digest.Hashing.add.Goals as goal

pub loop-item-preserved : goal.loop-item-preserved
loop-item-preserved g c taken held =
    let items = c.args.items.now in
    let i = c.loop-item.item-index in
    let x = c.item-item.result in
    let more : take (i + 1) items ≡ take i items ++ x ∷ [] = take_more items i x c.loop-item-test.true ∙ ap (λ (y : List ℕ). take i items ++ y ∷ []) (sym c.item-item.is) in
    let one = c.add_item.ensures (taken ++ take i items) (c.loop-item.invariant taken held) in
    let same : (taken ++ take i items) ++ x ∷ [] ≡ taken ++ take (i + 1) items = append_assoc taken (take i items) (x ∷ []) ∙ ap (λ (l : List (List ℕ)). taken ++ l) (sym more) in
    subst (Holds c.add_item.new.self) (ap (λ (y : List ℕ). (taken ++ take i items) ++ y ∷ []) c.as_bytes.ensures.same ∙ same) one
