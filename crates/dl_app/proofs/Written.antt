-- An option writes settings of one sort: its third letter says which.
use Rattle.std.proofs.Common.{◌≡◌, ℕ, ◌==◌, true, List, get_or, refl, sym, ◌∙◌, ap}
use Rattle.dl_app.specs.declared.options.Setting.{Setting}
use Rattle.dl_app.specs.declared.options.Setting.TheVariants as setting
use Rattle.dl_app.specs.Options.{WritesSetting, is_same_sort}

-- the third letter of an option of this sort
abbrev letter : Setting → ℕ
letter (setting.Base x) = 115
letter (setting.Size x) = 122
letter (setting.Mode x) = 100
letter (setting.Repair x) = 112
letter (setting.Head x) = 97
letter (setting.Notify x) = 116
letter (setting.Link x) = 110
letter (setting.Hold x) = 108

letter_reads : (option : List ℕ) (s : Setting) → WritesSetting option s → get_or option 2 0 ≡ letter s
letter_reads option (setting.Base x) p = ap (λ (o : List ℕ). get_or o 2 0) p.3
letter_reads option (setting.Size x) p = ap (λ (o : List ℕ). get_or o 2 0) p.2
letter_reads option (setting.Mode x) p = ap (λ (o : List ℕ). get_or o 2 0) p
letter_reads option (setting.Repair x) p = ap (λ (o : List ℕ). get_or o 2 0) p
letter_reads option (setting.Head x) p = ap (λ (o : List ℕ). get_or o 2 0) p.1
letter_reads option (setting.Notify x) p = ap (λ (o : List ℕ). get_or o 2 0) p
letter_reads option (setting.Link x) p = ap (λ (o : List ℕ). get_or o 2 0) p
letter_reads option (setting.Hold x) p = ap (λ (o : List ℕ). get_or o 2 0) p.2

by_letter : (s t : Setting) → is_same_sort s t ≡ (letter s == letter t)
by_letter (setting.Base x) (setting.Base y) = refl
by_letter (setting.Size x) (setting.Size y) = refl
by_letter (setting.Mode x) (setting.Mode y) = refl
by_letter (setting.Repair x) (setting.Repair y) = refl
by_letter (setting.Head x) (setting.Head y) = refl
by_letter (setting.Notify x) (setting.Notify y) = refl
by_letter (setting.Link x) (setting.Link y) = refl
by_letter (setting.Hold x) (setting.Hold y) = refl
by_letter s t = refl

-- of two settings that one option writes both are of the same sort as a third one, or neither is
pub one_sort : (option : List ℕ) (s t u : Setting) → WritesSetting option s → WritesSetting option t → is_same_sort s u ≡ is_same_sort t u
one_sort option s t u p q =
    let same : letter s ≡ letter t = sym (letter_reads option s p) ∙ letter_reads option t q in
    by_letter s u ∙ ap (λ (n : ℕ). n == letter u) same ∙ sym (by_letter t u)

own_sort : (s : Setting) → is_same_sort s s ≡ true
own_sort (setting.Base x) = refl
own_sort (setting.Size x) = refl
own_sort (setting.Mode x) = refl
own_sort (setting.Repair x) = refl
own_sort (setting.Head x) = refl
own_sort (setting.Notify x) = refl
own_sort (setting.Link x) = refl
own_sort (setting.Hold x) = refl

-- two settings that one option writes are of one sort
pub same_sort : (option : List ℕ) (s t : Setting) → WritesSetting option s → WritesSetting option t → is_same_sort s t ≡ true
same_sort option s t p q = one_sort option s t t p q ∙ own_sort t
