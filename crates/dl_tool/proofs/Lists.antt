-- Rows of a table, and one more.
use Rattle.std.proofs.Common.{◌≡◌, List, [], ◌∷◌, ◌++◌, sym, ◌∙◌, ap, ◌&&◌, ◌||◌, map as mapped}
use Rattle.dl_tool.proofs.Words.{is_clean, is_unread, list_all, list_any, map-append, Row}
use Rattle.dl_tool.proofs.Tellings.{all_more, any_more}

-- what was found of the rows, and of one more
pub found_snoc : (rows : List Row) (row : Row) → mapped (λ r. r.found) (rows ++ row ∷ []) ≡ mapped (λ r. r.found) rows ++ row.found ∷ []
found_snoc rows row = map-append (λ (r : Row). r.found) rows (row ∷ [])

pub clean_snoc : (rows : List Row) (row : Row) → (list_all is_clean (mapped (λ r. r.found) rows) && is_clean row.found) ≡ list_all is_clean (mapped (λ r. r.found) (rows ++ row ∷ []))
clean_snoc rows row = all_more (mapped (λ (r : Row). r.found) rows) row.found ∙ ap (list_all is_clean) (sym (found_snoc rows row))

pub unread_snoc : (rows : List Row) (row : Row) → (list_any is_unread (mapped (λ r. r.found) rows) || is_unread row.found) ≡ list_any is_unread (mapped (λ r. r.found) (rows ++ row ∷ []))
unread_snoc rows row = any_more (mapped (λ (r : Row). r.found) rows) row.found ∙ ap (list_any is_unread) (sym (found_snoc rows row))
