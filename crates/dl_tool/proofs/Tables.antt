-- A table of logs, and one log more.
use Rattle.std.proofs.Common.{◌≡◌, ◌+◌, ◌<◌, ℕ, List, [], ◌∷◌, ◌++◌, None, length, take, get_or, refl, sym, ◌∙◌, ap, zero-add, arith, sum_by}
use Rattle.dl_tool.proofs.Words.{Amount, capped, Row, take_more}
use Rattle.std.proofs.lemmas.List.Sums.{sum_by-append}
use Rattle.dl_tool.specs.Table.{amount_in, share_of, total_of, total_with, last_text}
use Rattle.dl_tool.proofs.Readings.{capped_more}

-- a sum, and one more
sum_snoc : {X : Type 0} (h : X → ℕ) (xs : List X) (x : X) → capped (capped (sum_by h xs) + h x) ≡ capped (sum_by h (xs ++ x ∷ []))
sum_snoc h xs x = capped_more (sum_by h xs) (h x) ∙ ap capped (sym (sum_by-append h xs (x ∷ []) ∙ ap (λ (m : ℕ). sum_by h xs + m) (zero-add (h x))))

total_more : (rows : List Row) (row : Row) → total_with (total_of rows) (share_of (amount_in row.found)) ≡ total_of (rows ++ row ∷ [])
total_more rows row =
    λ j. record {
      files = sum_snoc (λ r. (share_of (amount_in r.found)).files) rows row j;
      items = sum_snoc (λ r. (share_of (amount_in r.found)).items) rows row j;
      bytes = sum_snoc (λ r. (share_of (amount_in r.found)).bytes) rows row j;
      bad = sum_snoc (λ r. (share_of (amount_in r.found)).bad) rows row j;
      miscounted = sum_snoc (λ r. (share_of (amount_in r.found)).miscounted) rows row j;
      stored = None;
    }

pub total_step : (rows : List Row) (i : ℕ) (d : Row) (t new : Amount) → i < length rows → t ≡ total_of (take i rows) → new ≡ total_with t (share_of (amount_in (get_or rows i d).found)) → new ≡ total_of (take (i + 1) rows)
total_step rows i d t new below so_far is =
    is ∙ ap (λ (a : Amount). total_with a (share_of (amount_in (get_or rows i d).found))) so_far ∙ total_more (take i rows) (get_or rows i d) ∙ ap total_of (sym (take_more rows i d below))

pub last_none : (text : List ℕ) → length text ≡ 0 → last_text text ≡ []
last_none [] none = refl
last_none (c ∷ cs) none = absurd (omega (arith, none))
