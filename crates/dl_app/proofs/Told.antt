-- Notices, and one more.
use Rattle.std.proofs.Common.{◌≡◌, ℕ, List, [], ◌∷◌, ◌++◌, Result, Ok, Err, OnOk, refl, sym, ap, ◌∙◌, append_assoc, append-nil}
use Rattle.dl_types.specs.Notice.{Told}
use Rattle.dl_app.specs.Notices.{AreDeliveryTexts, IsDeliveryText}

-- a text that grew twice
pub grows : (old mid new front text : List ℕ) → mid ≡ old ++ front → new ≡ mid ++ text → new ≡ old ++ (front ++ text)
grows old mid new front text first second = second ∙ ap (λ (l : List ℕ). l ++ text) first ∙ append_assoc old front text

pub grows_on : {A E : Type 0} (r : Result A E) (old mid new front text : List ℕ) → mid ≡ old ++ front → OnOk r (new ≡ mid ++ text) → OnOk r (new ≡ old ++ (front ++ text))
grows_on (Ok x) old mid new front text first second = grows old mid new front text first second
grows_on (Err e) old mid new front text first second = tt

-- a notice after others
pub one_more : (deliveries : List Told) (delivery : Told) (told text : List ℕ) → AreDeliveryTexts deliveries told → IsDeliveryText delivery text
    → AreDeliveryTexts (deliveries ++ delivery ∷ []) (told ++ text)
one_more [] delivery told text all one = (text, [], one, refl, ap (λ (l : List ℕ). l ++ text) all ∙ sym (append-nil text))
one_more (first ∷ deliveries) delivery told text all one =
    (all.0, all.1 ++ text, all.2, one_more deliveries delivery all.1 text all.3 one, ap (λ (l : List ℕ). l ++ text) all.4 ∙ append_assoc all.0 all.1 text)
