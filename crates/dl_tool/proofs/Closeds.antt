-- The last file of a log.
use Rattle.std.proofs.Common.{◌≡◌, ℕ, List, Option, Some, sym, ◌∙◌, ap, subst, ◌↔◌}
use Rattle.dl_tool.proofs.Words.{Base, Content, Entry, Head, index_of, LogFiles, text_at, Wrap}
use Rattle.dl_types.specs.Frame.{IsHead}
use Rattle.dl_index.specs.Entries.{current_of}
use Rattle.dl_index.specs.IndexText.{IsIndex}
use Rattle.dl_index.specs.View.{IndexView}
use Rattle.dl_log.proofs.Stored.{index_once}
use Rattle.dl_tool.specs.declared.closed.Closed.{Closed}
use Rattle.dl_tool.specs.declared.closed.LastFile.{LastFile}
use Rattle.dl_tool.specs.Closed.{closed_count, wrap_last, IsClosed, IsLast, IsLastOf}
use Rattle.dl_tool.proofs.Newers.{same_some, IsHeadOf}

-- what is found of the last file
abbrev pub IsLastFound : Option LastFile → Content → LogFiles → Type 0
IsLastFound found content log = (last : LastFile) → (found ≡ Some last) ↔ IsLast content log last

-- ---- of a wrap log

module _ (content : Content) (base : Base) where
  pub current_last : (i : IndexView) (text : List ℕ) → index_of content base ≡ Some text → IsIndex text i.limits i.entries → (last : LastFile)
      → (Some (wrap_last base (current_of i.entries)) ≡ Some last) ↔ IsLastOf Wrap content base last
  current_last i text there index f = (
    (λ is. (text, i.limits, i.entries, there, index, sym (same_some is))),
    (λ last.
        let same : last.0 ≡ text = same_some (sym last.3 ∙ there) in
        let entries : last.2 ≡ i.entries = (index_once text last.1 i.limits last.2 i.entries (subst (λ (t : List ℕ). IsIndex t last.1 last.2) same last.4) index).1 in
        ap (λ (es : List Entry). Some (wrap_last base (current_of es))) (sym entries) ∙ ap Some (sym last.5)),
  )

-- ---- what it was closed with

module _ (content : Content) (log : LogFiles) where
  module _ (found_last : Option LastFile) (is : IsLastFound found_last content log) (last : LastFile) (last_is : found_last ≡ Some last) (found : Option Head) (heads : IsHeadOf found (text_at content last.file)) where
    same_last : (closed : Closed) (c : IsClosed content log closed) → c.last ≡ last
    same_last closed c = same_some (sym ((is c.last).1 c.is_last) ∙ last_is)

    head_there : (closed : Closed) (c : IsClosed content log closed) → found ≡ Some c.says
    head_there closed c = (heads c.says).1 (subst (λ (l : LastFile). IsHead (text_at content l.file) c.says) (same_last closed c) c.head)

    pub headless_not_closed : ((says : Head) → found ≡ Some says → ⊥) → (closed : Closed) → IsClosed content log closed → ⊥
    headless_not_closed none closed c = none c.says (head_there closed c)

    module _ (head : Head) (found_is : found ≡ Some head) where
      counted_is : (closed : Closed) (c : IsClosed content log closed) → closed_count last.generation head ≡ Some closed.items
      counted_is closed c =
          let says : c.says ≡ head = same_some (sym (head_there closed c) ∙ found_is) in
          ap (λ (l : LastFile). closed_count l.generation head) (sym (same_last closed c)) ∙ ap (closed_count c.last.generation) (sym says) ∙ c.counted

      pub uncounted_not_closed : ((items : ℕ) → closed_count last.generation head ≡ Some items → ⊥) → (closed : Closed) → IsClosed content log closed → ⊥
      uncounted_not_closed none closed c = none closed.items (counted_is closed c)

      pub closed_is : (items : ℕ) → closed_count last.generation head ≡ Some items → (closed : Closed) → (Some (record { file = last.file; items = items }) ≡ Some closed) ↔ IsClosed content log closed
      closed_is items counted closed = (
        (λ is_closed.
            let same = same_some is_closed in
            record {
              last = last;
              is_last = (is last).0 last_is;
              file = ap (λ (c : Closed). c.file) (sym same);
              says = head;
              head = (heads head).0 found_is;
              counted = counted ∙ ap (λ (c : Closed). Some c.items) same;
            }),
        (λ c.
            let own : last.file ≡ closed.file = ap (λ (l : LastFile). l.file) (sym (same_last closed c)) ∙ sym c.file in
            let n : items ≡ closed.items = same_some (sym counted ∙ counted_is closed c) in
            (λ i. Some (record { file = own i; items = n i }))),
      )
