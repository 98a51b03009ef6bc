-- Options one after another, and their settings.
use Rattle.std.proofs.Common.{◌≡◌, ◌||◌, Bool, true, false, cond, Some, None, List, [], ◌∷◌, ℕ, refl, sym, ◌∙◌, ap, subst}
use Rattle.std.specs.List.{fold, list_any}
use Rattle.dl_app.specs.declared.options.Setting.{Setting}
use Rattle.dl_app.specs.declared.options.Setting.TheVariants as setting
use Rattle.dl_app.specs.declared.options.Settings.{Settings}
use Rattle.dl_app.specs.Options.{WritesSetting, WriteSettings, AreOfOwnSorts, GiveSettings, is_same_sort}
use Rattle.dl_app.specs.Settings.{no_settings, is_set, also_set}
use Rattle.dl_app.proofs.Written.{one_sort}

-- ---- options that are read on from settings

abbrev pub ReadOn : Settings → List (List ℕ) → Settings → Type 0
ReadOn all [] new = new ≡ all
ReadOn all (option ∷ options) new = (s : Setting) × WritesSetting option s × (is_set all s ≡ false) × ReadOn (also_set all s) options new

-- options can be read on from settings, whatever they set
abbrev pub CanRead : Settings → List (List ℕ) → Type 0
CanRead all [] = Unit {0}
CanRead all (option ∷ options) = (s : Setting) × WritesSetting option s × (is_set all s ≡ false) × CanRead (also_set all s) options

or_each : (a b c d : Bool) → ((a || b) || (c || d)) ≡ ((a || c) || (b || d))
or_each true b c d = refl
or_each false true true d = refl
or_each false true false d = refl
or_each false false c d = refl

neither : (a b : Bool) → (a || b) ≡ false → (a ≡ false) × (b ≡ false)
neither true b e = let bad : ⊥ = cc in absurd bad
neither false b e = (refl, e)

no_one : (a b : Bool) → a ≡ false → b ≡ false → (a || b) ≡ false
no_one true b p q = let bad : ⊥ = cc in absurd bad
no_one false b p q = q

set_by : (all : Settings) (s t : Setting) → is_set (also_set all s) t ≡ (is_same_sort s t || is_set all t)
set_by all (setting.Base x) (setting.Base y) = refl
set_by all (setting.Size x) (setting.Size y) = refl
set_by all (setting.Mode x) (setting.Mode y) = refl
set_by all (setting.Repair x) (setting.Repair y) = refl
set_by all (setting.Head x) (setting.Head y) = refl
set_by all (setting.Notify x) (setting.Notify y) = refl
set_by all (setting.Link x) (setting.Link y) = refl
set_by all (setting.Hold x) (setting.Hold y) = refl
set_by all s t = refl

any_set : (all : Settings) (s : Setting) (settings : List Setting)
    → list_any (is_set (also_set all s)) settings ≡ (list_any (is_same_sort s) settings || list_any (is_set all) settings)
any_set all s [] = refl
any_set all s (t ∷ settings) =
    rw (set_by all s t, any_set all s settings) (or_each (is_same_sort s t) (is_set all t) (list_any (is_same_sort s) settings) (list_any (is_set all) settings))

-- what is read is what the options give
pub read_gives : (all : Settings) (options : List (List ℕ)) (new : Settings) → ReadOn all options new
    → (settings : List Setting) × GiveSettings options settings × (list_any (is_set all) settings ≡ false) × (new ≡ fold also_set all settings)
read_gives all [] new e = ([], (tt, tt), refl, e)
read_gives all (option ∷ options) new read =
    let s = read.0 in
    let more = read_gives (also_set all s) options new read.3 in
    let each = neither (list_any (is_same_sort s) more.0) (list_any (is_set all) more.0) (sym (any_set all s more.0) ∙ more.2) in
    (s ∷ more.0, ((read.1, more.1.0), (each.0, more.1.1)), no_one (is_set all s) (list_any (is_set all) more.0) read.2 each.1, more.3)

-- options that give settings can be read
given_reads : (all : Settings) (options : List (List ℕ)) (settings : List Setting) → WriteSettings options settings → AreOfOwnSorts settings → list_any (is_set all) settings ≡ false → CanRead all options
given_reads all [] [] write own unset = tt
given_reads all [] (s ∷ settings) write own unset = absurd write
given_reads all (option ∷ options) [] write own unset = absurd write
given_reads all (option ∷ options) (s ∷ settings) write own unset =
    let each = neither (is_set all s) (list_any (is_set all) settings) unset in
    let others = any_set all s settings ∙ no_one (list_any (is_same_sort s) settings) (list_any (is_set all) settings) own.0 each.1 in
    (s, write.0, each.0, given_reads (also_set all s) options settings write.1 own.1 others)

none_set : (settings : List Setting) → list_any (is_set no_settings) settings ≡ false
none_set [] = refl
none_set (setting.Base x ∷ settings) = none_set settings
none_set (setting.Size x ∷ settings) = none_set settings
none_set (setting.Mode x ∷ settings) = none_set settings
none_set (setting.Repair x ∷ settings) = none_set settings
none_set (setting.Head x ∷ settings) = none_set settings
none_set (setting.Notify x ∷ settings) = none_set settings
none_set (setting.Link x ∷ settings) = none_set settings
none_set (setting.Hold x ∷ settings) = none_set settings

-- ---- the loop over options

-- a setting is added only if none of its sort is set
pub is_new : (b : Bool) (x y : Settings) → Some y ≡ cond b None (Some x) → (b ≡ false) × (y ≡ x)
is_new true x y e = let bad : ⊥ = cc in absurd bad
is_new false x y e = (refl, cc)

pub both_ways : (b : Bool) → b ≡ true → b ≡ false → ⊥
both_ways true p q = let bad : ⊥ = cc in bad
both_ways false p q = let bad : ⊥ = cc in bad

-- one more option is read
pub read_more : (all : Settings) (left : List (List ℕ)) (option : List ℕ) (rest : List (List ℕ)) (s : Setting) (next new : Settings) → left ≡ option ∷ rest → WritesSetting option s → is_set all s ≡ false
    → next ≡ also_set all s → ReadOn next rest new → ReadOn all left new
read_more all left option rest s next new at writes unset is read =
    subst (λ (l : List (List ℕ)). ReadOn all l new) (sym at) (s, writes, unset, subst (λ (n : Settings). ReadOn n rest new) is read)

-- which options can be read depends on which sorts are set, and on nothing else
can_read_alike : (a b : Settings) → ((t : Setting) → is_set a t ≡ is_set b t) → (options : List (List ℕ)) → CanRead a options → CanRead b options
can_read_alike a b same [] read = tt
can_read_alike a b same (option ∷ options) read =
    let s = read.0 in
    let more = λ (t : Setting). set_by a s t ∙ ap (λ (x : Bool). is_same_sort s t || x) (same t) ∙ sym (set_by b s t) in
    (s, read.1, sym (same s) ∙ read.2, can_read_alike (also_set a s) (also_set b s) more options read.3)

-- and the others can be read after it, whichever setting it wrote
pub read_less : (all : Settings) (left : List (List ℕ)) (option : List ℕ) (rest : List (List ℕ)) (s : Setting) (next : Settings) → left ≡ option ∷ rest → WritesSetting option s → next ≡ also_set all s
    → CanRead all left → CanRead next rest
read_less all left option rest s next at writes is read =
    let first = subst (λ (l : List (List ℕ)). CanRead all l) at read in
    let same = λ (t : Setting). set_by all first.0 t ∙ ap (λ (x : Bool). x || is_set all t) (one_sort option first.0 s t first.1 writes) ∙ sym (set_by all s t) in
    subst (λ (n : Settings). CanRead n rest) (sym is) (can_read_alike (also_set all first.0) (also_set all s) same rest first.3)

-- of two settings of one sort both are set, or neither is
pub set_alike : (all : Settings) (s t : Setting) → is_same_sort s t ≡ true → is_set all s ≡ is_set all t
set_alike all (setting.Base x) (setting.Base y) same = refl
set_alike all (setting.Size x) (setting.Size y) same = refl
set_alike all (setting.Mode x) (setting.Mode y) same = refl
set_alike all (setting.Repair x) (setting.Repair y) same = refl
set_alike all (setting.Head x) (setting.Head y) same = refl
set_alike all (setting.Notify x) (setting.Notify y) same = refl
set_alike all (setting.Link x) (setting.Link y) same = refl
set_alike all (setting.Hold x) (setting.Hold y) same = refl
set_alike all s t same = let bad : ⊥ = cc in absurd bad

-- options that are not read to their end give nothing
pub none_given : (options : List (List ℕ)) (all : Settings) (left : List (List ℕ)) (option : List ℕ) (rest : List (List ℕ)) → left ≡ option ∷ rest
    → (CanRead no_settings options → CanRead all left) → ((s : Setting) → WritesSetting option s → is_set all s ≡ false → ⊥)
    → (settings : List Setting) → GiveSettings options settings → ⊥
none_given options all left option rest at back none settings given =
    let read = back (given_reads no_settings options settings given.0 given.1 (none_set settings)) in
    let first = subst (λ (l : List (List ℕ)). CanRead all l) at read in
    none first.0 first.1 first.2
