-- The table is compared with the definition at each byte, by computing.
use Rattle.std.proofs.Common.{◌≡◌, ℕ, zero, suc, ◌<◌, Bool, true, false, ◌&&◌, not, nat_eq, get_or, List, refl, arith, inl, inr}
use Rattle.std.specs.Bool.{beq}
use Rattle.std.proofs.lemmas.Bool.{cases_eq}
use Rattle.dl_app.specs.declared.items.TheConstants.{ITEM_BYTES}
use Rattle.dl_app.specs.Items.{is_item_byte}
use Rattle.dl_app.proofs.items.is_item_byte.Goals as goal

-- two tests answer alike below n
alike : (ℕ → Bool) → (ℕ → Bool) → ℕ → Bool
alike f g zero = true
alike f g (suc n) = beq (f n) (g n) && alike f g n

head_and_rest : (x y rest : Bool) → (beq x y && rest) ≡ true → (x ≡ y) × (rest ≡ true)
head_and_rest true true rest h = (refl, h)
head_and_rest true false rest h = cc
head_and_rest false true rest h = cc
head_and_rest false false rest h = (refl, h)

alike_at : (f g : ℕ → Bool) (n : ℕ) → alike f g n ≡ true → (b : ℕ) → b < n → f b ≡ g b
unfolding alike
alike_at f g zero h b below = absurd (omega arith)
alike_at f g (suc n) h b below =
    let both = head_and_rest (f n) (g n) (alike f g n) h in
    elim (cases_eq b n) [ inl same ↦ rw same both.0 | inr other ↦ alike_at f g n both.1 b (omega arith) ]

by_table : (table : List ℕ) (b : ℕ) → b < 256 → alike (λ k. not (nat_eq (get_or table k 0) 42)) is_item_byte 256 ≡ true → not (nat_eq (get_or table b 0) 42) ≡ is_item_byte b
by_table table b below h = alike_at _ _ 256 h b below

pub returns : goal.returns
unfolding alike
returns c = by_table ITEM_BYTES c.args.byte (omega arith) refl
