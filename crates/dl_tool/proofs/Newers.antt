-- A file against the index of its base.
use Rattle.std.proofs.Common.{◌≡◌, ◌<◌, ℕ, List, Option, Some, sym, ◌∙◌, ap, subst, arith, ◌↔◌}
use Rattle.dl_tool.proofs.Words.{Content, Entry, FileName, Head, index_of, text_at}
use Rattle.dl_types.specs.Frame.{IsHead}
use Rattle.dl_index.specs.Entries.{current_of}
use Rattle.dl_index.specs.IndexText.{IsIndex}
use Rattle.dl_index.specs.View.{IndexView}
use Rattle.dl_log.proofs.Stored.{index_once}
use Rattle.dl_tool.specs.Newer.{IsNewer}

pub same_some : {X : Type 0} {x y : X} → Some x ≡ Some y → x ≡ y
same_some e = cc e

-- what is found of a head in a text
abbrev pub IsHeadOf : Option Head → List ℕ → Type 0
IsHeadOf found text = (says : Head) → (found ≡ Some says) ↔ IsHead text says

module _ (content : Content) (f : FileName) where
  -- a file that begins with no head is not newer
  pub headless_not_newer : (found : Option Head) → IsHeadOf found (text_at content f) → ((says : Head) → found ≡ Some says → ⊥) → IsNewer content f → ⊥
  headless_not_newer found is none n = none n.says ((is n.says).1 n.head)

  module _ (i : IndexView) (text : List ℕ) (there : index_of content f.base ≡ Some text) (index : IsIndex text i.limits i.entries) (found : Option Head) (is : IsHeadOf found (text_at content f)) (head : Head) (found_is : found ≡ Some head) where
    pub newer_if : (current_of i.entries).generation < head.generation → IsNewer content f
    newer_if above = record {
      text = text;
      limits = i.limits;
      entries = i.entries;
      there = there;
      index = index;
      says = head;
      head = (is head).0 found_is;
      above = above;
    }

    pub newer_only : IsNewer content f → (current_of i.entries).generation < head.generation
    newer_only n =
        let same : n.text ≡ text = same_some (sym n.there ∙ there) in
        let entries : n.entries ≡ i.entries = (index_once text n.limits i.limits n.entries i.entries (subst (λ (t : List ℕ). IsIndex t n.limits n.entries) same n.index) index).1 in
        let says : n.says ≡ head = same_some (sym ((is n.says).1 n.head) ∙ found_is) in
        omega (arith, n.above, ap (λ (es : List Entry). (current_of es).generation) entries, ap (λ (h : Head). h.generation) says)
