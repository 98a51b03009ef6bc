-- Look-ups of kept files, after an edit of their list.
use Rattle.std.proofs.Common.{◌≡◌, Bool, List, ◌∷◌, Contains, Option, Some, None, IsSome, option_map, refl, Result, Ok, Err, OnOk, cond, ◌∙◌, ap, sym, subst}
use Rattle.std.specs.Cmp.{IsEquivalence}
use Rattle.std.specs.List.{IsDistinct}
use Rattle.std.specs.Map.{lookup, lookup_entry, keys_of, remove_entry, set_value}
use Rattle.std.proofs.lemmas.Map.{lookup-none, none_passes_from_lookup, lookup-remove_entry, lookup-set_value}
use Rattle.std.specs.Option.{option_map_or}
use Rattle.lru.specs.LruCache.{promoted}
use Rattle.lru.proofs.Pairs.{lookup-lookup_entry}
use Rattle.lru.proofs.CallerLemmas.{Contains-lookup_entry}
use Rattle.lru.proofs.Splits.{all_at, all_from}
use Rattle.dl_types.specs.declared.file.FileName.{FileName}
use Rattle.dl_types.specs.contracts.file.FileNamePartialEq.TheImpl.{ghosts as file_ghosts}
use Rattle.dl_types.proofs.Keys.{decides_laws, file_eq_decides}

abbrev pub eq : FileName → FileName → Bool
eq = file_ghosts.eq

pub laws : IsEquivalence eq
laws = decides_laws eq file_eq_decides

module _ {X : Type 0} (name : FileName) where
  -- a name that is not in a list is not in one that has only entries of it
  pub closed_within : (es fs : List (FileName × X)) → ((e : FileName × X) → Contains fs e → Contains es e) → lookup (eq name) es ≡ None → lookup (eq name) fs ≡ None
  closed_within es fs sub none = lookup-none (eq name) fs (all_from _ fs (λ e c. all_at _ es e (none_passes_from_lookup (eq name) es none) (sub e c)))

  -- an entry that was removed is gone
  pub closed_removed : (es : List (FileName × X)) → IsDistinct eq (keys_of es) → lookup (eq name) (remove_entry (eq name) es) ≡ None
  closed_removed es distinct =
      lookup-remove_entry laws (eq name) (λ x y. laws.congr name x y) name es distinct
      ∙ ap (λ t. cond t None (lookup (eq name) es)) (laws.refl name)

  -- a value that was written through a borrow is found
  pub kept_written : (es : List (FileName × X)) (w : X) → IsSome (lookup (eq name) es) → lookup (eq name) (set_value (eq name) es w) ≡ Some w
  kept_written es w some =
      lookup-set_value laws (eq name) (λ x y. laws.congr name x y) name w es some
      ∙ ap (λ t. cond t (Some w) (lookup (eq name) es)) (laws.refl name)

  -- the entry that was looked up goes first, and is found as before
  pub kept_promoted : (es : List (FileName × X)) → lookup (eq name) (promoted (eq name) es) ≡ lookup (eq name) es
  kept_promoted es = by (lookup_entry (eq name) es) refl
    where
      by : (o : Option (FileName × X)) → lookup_entry (eq name) es ≡ o → lookup (eq name) (option_map_or (λ e. e ∷ remove_entry (eq name) es) o es) ≡ lookup (eq name) es
      by None h = refl
      by (Some e) h =
          ap (λ t. cond t (Some e.1) (lookup (eq name) (remove_entry (eq name) es))) (Contains-lookup_entry (eq name) es e h).1
          ∙ ap (option_map (λ (f : FileName × X). f.1)) (sym h) ∙ lookup-lookup_entry (eq name) es

-- what holds after a call that succeeded still holds if its answer is handed on and nothing else is changed
pub still_on_ok : {T E X : Type 0} (P : X → Type 0) (old new : X) (handed answer : Result T E) → handed ≡ answer → OnOk handed (new ≡ old) → OnOk answer (P old) → OnOk handed (P new)
still_on_ok {T} {E} P old new (Ok x) answer same kept holds = subst P (sym kept) (subst (λ (r : Result T E). OnOk r (P old)) (sym same) holds)
still_on_ok P old new (Err e) answer same kept holds = tt
