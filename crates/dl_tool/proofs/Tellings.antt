-- Logs that were reported, and one more.
use Rattle.std.proofs.Common.{◌≡◌, ℕ, List, [], ◌∷◌, ◌++◌, Bool, true, false, Option, IsTrue, refl, sym, ◌∙◌, ap, subst, append_assoc, append-nil, ◌&&◌, ◌||◌}
use Rattle.dl_tool.proofs.Words.{Content, DiskState, Finding, is_clean, is_unread, list_all, list_any, LogFiles}
use Rattle.std.specs.Io.KnownBytes.{Appends}
use Rattle.std.proofs.KnownBytes.{Appends-nil, Appends-trans}
use Rattle.dl_tool.specs.declared.told.Style.{Style}
use Rattle.std.proofs.lemmas.List.Folds.{list_all-append, list_any-append}
use Rattle.dl_tool.specs.Report.{FindsLog, AreFound, AreLines, Tells}
use Rattle.dl_tool.specs.Told.{IsTold}

pub found_more : (Z : Type 0) (content : Content) (logs : List LogFiles) (xs : List Finding) (log : LogFiles) (x : Finding) → AreFound Z content logs xs → FindsLog Z content log x
    → AreFound Z content (logs ++ log ∷ []) (xs ++ x ∷ [])
found_more Z content [] [] log x all one = (one, tt)
found_more Z content [] (y ∷ ys) log x all one = absurd all
found_more Z content (l ∷ ls) [] log x all one = absurd all
found_more Z content (l ∷ ls) (y ∷ ys) log x all one = (all.0, found_more Z content ls ys log x all.1 one)

pub lines_more : (style : Style) (logs : List LogFiles) (xs : List Finding) (log : LogFiles) (x : Finding) (told line : List ℕ) → AreLines style logs xs told → IsTold style log x line
    → AreLines style (logs ++ log ∷ []) (xs ++ x ∷ []) (told ++ line)
lines_more style [] [] log x told line all one = (line, [], one, refl, ap (λ (l : List ℕ). l ++ line) all ∙ sym (append-nil line))
lines_more style [] (y ∷ ys) log x told line all one = absurd all
lines_more style (l ∷ ls) [] log x told line all one = absurd all
lines_more style (l ∷ ls) (y ∷ ys) log x told line all one =
    (all.0, all.1 ++ line, all.2, lines_more style ls ys log x all.1 line all.3 one, ap (λ (t : List ℕ). t ++ line) all.4 ∙ append_assoc all.0 all.1 line)

-- one log more
pub tells_more : (Z : Type 0) (style : Style) (old mid new : DiskState) (logs : List LogFiles) (found : List Finding) (log : LogFiles) (x : Finding) (written now after : Option (List ℕ))
    → (IsTrue new.honest → IsTrue mid.honest) → (IsTrue mid.honest → mid.content ≡ old.content) → Tells Z style old mid logs found written now
    → (IsTrue new.honest → FindsLog Z mid.content log x) → (line : List ℕ) → IsTold style log x line → Appends now after line
    → Tells Z style old new (logs ++ log ∷ []) (found ++ x ∷ []) written after
tells_more Z style old mid new logs found log x written now after stayed same told finds line is appends = record {
  finds = λ h. found_more Z old.content logs found log x (told.finds (stayed h)) (subst (λ (m : Content). FindsLog Z m log x) (same (stayed h)) (finds h));
  text = told.text ++ line;
  lines = lines_more style logs found log x told.text line told.lines is;
  appends = Appends-trans written now after told.text line told.appends appends;
}

-- no log yet
pub tells_none : (Z : Type 0) (style : Style) (disk : DiskState) (written : Option (List ℕ)) → Tells Z style disk disk [] [] written written
tells_none Z style disk written = record { finds = λ h. tt; text = []; lines = refl; appends = Appends-nil written }

-- a test of all logs, and one of some, with one log more
pub all_more : (found : List Finding) (x : Finding) → (list_all is_clean found && is_clean x) ≡ list_all is_clean (found ++ x ∷ [])
all_more found x = sym (list_all-append is_clean found (x ∷ []) ∙ ap (λ (b : Bool). list_all is_clean found && b) (and_true (is_clean x)))
  where
    and_true : (b : Bool) → (b && true) ≡ b
    and_true true = refl
    and_true false = refl

pub any_more : (found : List Finding) (x : Finding) → (list_any is_unread found || is_unread x) ≡ list_any is_unread (found ++ x ∷ [])
any_more found x = sym (list_any-append is_unread found (x ∷ []) ∙ ap (λ (b : Bool). list_any is_unread found || b) (or_false (is_unread x)))
  where
    or_false : (b : Bool) → (b || false) ≡ b
    or_false true = refl
    or_false false = refl
