-- A table of files as a finite map, and such a map after one change.
use Rattle.std.proofs.Common.{◌≡◌, ◌≢◌, ◌↔◌, ℕ, ◌<◌, List, [], ◌∷◌, map, length, Bool, true, false, cond, Option, Some, None, IsSome, Vec, vec_len, Contains, refl, sym, ◌∙◌, ap, subst, option_map, get_or, arith, true≢false}
use Rattle.std.specs.Map.{lookup, keys_of}
use Rattle.std.specs.List.{IsDistinct, AllZip, each_same}
use Rattle.std.specs.FinMap.{find, from_entries, insert, remove, get-insert, get-remove, get-from_entries, same_map}
use Rattle.std.specs.FinMap as finite
use Rattle.std.specs.Ordering.{eq_by_cmp}
use Rattle.std.proofs.lemmas.Map.Keys.{apart_from_distinct}
use Rattle.std.proofs.lemmas.Map.Views.{Contains-keys_from_lookup, IsSome-lookup_from_Contains}
use Rattle.dl_types.specs.declared.file.FileName.{FileName}
use Rattle.dl_types.specs.FileName.{file_cmp, file_cmp_total, file_cmp_exact, Content}
use Rattle.dl_types.specs.contracts.file.FileNamePartialEq.TheImpl.{ghosts as file_ghosts}
use Rattle.dl_types.proofs.Keys.{file_eq_decides, file_cmp_eq, apart, decides_laws}
use Rattle.dl_disk.specs.Disk.{IsOnce, IsShorter}
use Rattle.dl_disk.specs.Memory.{with_bytes, content_of}

abbrev eq : FileName → FileName → Bool
eq = file_ghosts.eq

-- ---- a finite map after one change
-- the order says that two names are the same exactly if `==` does
ties : (f g : FileName) → eq_by_cmp file_cmp f g ≡ eq g f
ties f g = file_cmp_eq f g ∙ (decides_laws eq file_eq_decides).symm f g

at_name : (file f : FileName) (m : Content) (w : Option (List ℕ)) → cond (eq_by_cmp file_cmp f file) w (finite.get m f) ≡ cond (eq file f) w (finite.get m f)
at_name file f m w = ap (λ t. cond t w (finite.get m f)) (ties f file)

-- a file that was put there is found
pub put_there : (m : Content) (file : FileName) (text : List ℕ) → finite.get (insert m file text) file ≡ Some text
put_there m file text = get-insert file_cmp_total m file text file ∙ at_name file file m (Some text)
    ∙ ap (λ t. cond t (Some text) (finite.get m file)) ((file_eq_decides file file).1 refl)

-- and another one is as it was
pub others_kept : (m : Content) (file : FileName) (text : List ℕ) (f : FileName) → f ≢ file → finite.get (insert m file text) f ≡ finite.get m f
others_kept m file text f ne = get-insert file_cmp_total m file text f ∙ at_name file f m (Some text)
    ∙ ap (λ t. cond t (Some text) (finite.get m f)) (apart eq file_eq_decides file f ne)

-- if a file was removed, another one is as it was
pub others_removed : (m : Content) (file f : FileName) → f ≢ file → finite.get (remove m file) f ≡ finite.get m f
others_removed m file f ne = get-remove file_cmp_total m file f ∙ ap (λ t. cond t None (finite.get m f)) (ties f file ∙ apart eq file_eq_decides file f ne)

-- putting the bytes that a file already has changes nothing
pub put_again : (m : Content) (file : FileName) (text : List ℕ) → finite.get m file ≡ Some text → insert m file text ≡ m
put_again m file text is = same_map file_cmp_total file_cmp_exact _ _ (λ f. get-insert file_cmp_total m file text f ∙ at_name file f m (Some text) ∙ by_test f (eq file f) refl)
  where
    by_test : (f : FileName) (t : Bool) → eq file f ≡ t → cond t (Some text) (finite.get m f) ≡ finite.get m f
    by_test f true e = sym is ∙ ap (finite.get m) ((file_eq_decides file f).0 e)
    by_test f false e = refl

-- names that `==` tells apart stand once each
once : (names : List FileName) → IsDistinct eq names → IsOnce names
once names distinct i j d below_i below_j same = by_order i j below_i below_j same
  where
    differ : (a b : ℕ) → a < b → b < length names → get_or names a d ≢ get_or names b d
    differ a b lt below e = true≢false (sym ((file_eq_decides _ _).1 e) ∙ apart_from_distinct eq names a b d distinct lt below)

    by_order : (a b : ℕ) → a < length names → b < length names → get_or names a d ≡ get_or names b d → a ≡ b
    by_order a b p q e =
        let not_below : a < b → ⊥ = λ lt. differ a b lt q e in
        let not_above : b < a → ⊥ = λ lt. differ b a lt p (sym e) in
        omega arith

-- ---- a clone of a table
-- each entry of the clone is that of the table
pub entries_copied : {K X : Type 0} (es fs : List (K × X)) → AllZip (λ p q. (q.0 ≡ p.0) × (q.1 ≡ p.1)) es fs → fs ≡ es
entries_copied [] [] h = refl
entries_copied [] (f ∷ fs) h = elim h [ ]
entries_copied (e ∷ es) [] h = elim h [ ]
entries_copied (e ∷ es) (f ∷ fs) h =
    ap (λ k. (k, f.1) ∷ fs) h.0.0 ∙ ap (λ x. (e.0, x) ∷ fs) h.0.1 ∙ ap (λ l. e ∷ l) (entries_copied es fs h.1)

-- ---- a table of files
module _ {Z : Type 0} where
  abbrev bytes_of : Vec ℕ Z → List ℕ
  bytes_of v = v.items

  chosen : (t : Bool) (o r : Option (Vec ℕ Z)) → option_map bytes_of (cond t o r) ≡ cond t (option_map bytes_of o) (option_map bytes_of r)
  chosen true o r = refl
  chosen false o r = refl

  found : (es : List (FileName × Vec ℕ Z)) (f : FileName) → find file_cmp f (map with_bytes es) ≡ option_map bytes_of (lookup (eq f) es)
  found [] f = refl
  found (e ∷ es) f = ap (λ t. cond t (Some e.1.items) (find file_cmp f (map with_bytes es))) (file_cmp_eq f e.0)
      ∙ ap (cond (eq f e.0) (Some e.1.items)) (found es f) ∙ sym (chosen (eq f e.0) (Some e.1) (lookup (eq f) es))

  -- the map has at a name the bytes that the table has there
  pub content_at : (es : List (FileName × Vec ℕ Z)) (f : FileName) → finite.get (content_of es) f ≡ option_map bytes_of (lookup (eq f) es)
  content_at es f = get-from_entries file_cmp_total (map with_bytes es) f ∙ found es f

  -- the same, if the look-up has been made
  pub content_is : (es : List (FileName × Vec ℕ Z)) (f : FileName) (o : Option (Vec ℕ Z)) → o ≡ lookup (eq f) es → finite.get (content_of es) f ≡ option_map bytes_of o
  content_is es f o is = content_at es f ∙ ap (option_map bytes_of) (sym is)

  -- if what was found is too short, so is the file
  pub shorter_is : (es : List (FileName × Vec ℕ Z)) (f : FileName) (o : Option (Vec ℕ Z)) (end : ℕ) → o ≡ lookup (eq f) es
      → IsShorter (option_map bytes_of o) end → IsShorter (finite.get (content_of es) f) end
  shorter_is es f o end is short = subst (λ (t : Option (List ℕ)). IsShorter t end) (sym (content_is es f o is)) short

  module _ (old new : List (FileName × Vec ℕ Z)) (file : FileName) where
    -- the new table has another value at one name
    abbrev pub Changes : Option (Vec ℕ Z) → Type 0
    Changes w = (f : FileName) → lookup (eq f) new ≡ cond (eq file f) w (lookup (eq f) old)

    changed_at : (w : Option (Vec ℕ Z)) → Changes w → (f : FileName)
        → finite.get (content_of new) f ≡ cond (eq_by_cmp file_cmp f file) (option_map bytes_of w) (finite.get (content_of old) f)
    changed_at w is f = content_at new f ∙ ap (option_map bytes_of) (is f) ∙ chosen (eq file f) w (lookup (eq f) old)
        ∙ ap (cond (eq file f) (option_map bytes_of w)) (sym (content_at old f)) ∙ sym (at_name file f (content_of old) (option_map bytes_of w))

    pub content_put : (v : Vec ℕ Z) → Changes (Some v) → content_of new ≡ insert (content_of old) file v.items
    content_put v is = same_map file_cmp_total file_cmp_exact _ _ (λ f. changed_at (Some v) is f ∙ sym (get-insert file_cmp_total (content_of old) file v.items f))

    pub content_removed : Changes None → content_of new ≡ remove (content_of old) file
    content_removed is = same_map file_cmp_total file_cmp_exact _ _ (λ f. changed_at None is f ∙ sym (get-remove file_cmp_total (content_of old) file f))

    -- a vector was replaced by one with the same bytes
    pub content_kept : (v w : Vec ℕ Z) → Some v ≡ lookup (eq file) old → w.items ≡ v.items → Changes (Some w) → content_of new ≡ content_of old
    content_kept v w was same is = content_put w is ∙ ap (insert (content_of old) file) same ∙ put_again (content_of old) file v.items (content_is old file (Some v) was)

  -- a clone has the same files
  pub content_copied : (es fs : List (FileName × Vec ℕ Z)) → AllZip (λ p q. (q.0 ≡ p.0) × (AllZip (λ x y. y ≡ x) p.1.items q.1.items × (vec_len q.1 ≡ vec_len p.1))) es fs
      → content_of fs ≡ content_of es
  content_copied es fs h = ap from_entries (lists es fs h)
    where
      lists : (es fs : List (FileName × Vec ℕ Z)) → AllZip (λ p q. (q.0 ≡ p.0) × (AllZip (λ x y. y ≡ x) p.1.items q.1.items × (vec_len q.1 ≡ vec_len p.1))) es fs
          → map with_bytes fs ≡ map with_bytes es
      lists [] [] h = refl
      lists [] (f ∷ fs) h = elim h [ ]
      lists (e ∷ es) [] h = elim h [ ]
      lists (e ∷ es) (f ∷ fs) h = ap (λ k. (k, f.1.items) ∷ map with_bytes fs) h.0.0
          ∙ ap (λ t. (e.0, t) ∷ map with_bytes fs) (each_same e.1.items f.1.items h.0.1.0)
          ∙ ap (λ l. (e.0, e.1.items) ∷ l) (lists es fs h.1)

  is_some_bytes : (o : Option (Vec ℕ Z)) → (IsSome o → IsSome (option_map bytes_of o)) × (IsSome (option_map bytes_of o) → IsSome o)
  is_some_bytes None = (λ h. h, λ h. h)
  is_some_bytes (Some v) = (λ h. h, λ h. h)

  -- the keys of a table are the names that its map has, each once
  pub names_of_table : (es : List (FileName × Vec ℕ Z)) (names : List FileName) → names ≡ keys_of es → IsDistinct eq (keys_of es)
      → IsOnce names × ((f : FileName) → Contains names f ↔ IsSome (finite.get (content_of es) f))
  names_of_table es names is distinct = subst Lists (sym is) (once (keys_of es) distinct, λ f. (listed f, there f))
    where
      Lists : List FileName → Type 0
      Lists names = IsOnce names × ((f : FileName) → Contains names f ↔ IsSome (finite.get (content_of es) f))

      listed : (f : FileName) → Contains (keys_of es) f → IsSome (finite.get (content_of es) f)
      listed f h = subst IsSome (sym (content_at es f)) ((is_some_bytes (lookup (eq f) es)).0 (IsSome-lookup_from_Contains (decides_laws eq file_eq_decides) f es h))

      there : (f : FileName) → IsSome (finite.get (content_of es) f) → Contains (keys_of es) f
      there f h = Contains-keys_from_lookup (λ x y. (file_eq_decides x y).0) f es ((is_some_bytes (lookup (eq f) es)).1 (subst IsSome (content_at es f) h))
