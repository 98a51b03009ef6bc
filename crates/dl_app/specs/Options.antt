-- The options of an open, and the arguments that they make.
use Rattle.std.specs.Prelude.{◌≡◌, ℕ, List, [], ◌∷◌, ◌++◌, Bool, true, false, Some, codes, ⊤}
use Rattle.std.specs.List.{fold, list_any}
use Rattle.dl_types.specs.declared.size.Link.{Link}
use Rattle.dl_types.specs.declared.size.Link.TheVariants.{Owner, Anonymous}
use Rattle.dl_types.specs.declared.size.Mode.{Mode}
use Rattle.dl_types.specs.declared.size.Mode.TheVariants.{ReadWrite, ReadOnly}
use Rattle.dl_types.specs.declared.size.Repair.{Repair}
use Rattle.dl_types.specs.declared.size.Repair.TheVariants.{Yes, No, Truncate}
use Rattle.dl_types.specs.Name.{IsNameText, base_from}
use Rattle.dl_app.specs.declared.options.Setting.{Setting}
use Rattle.dl_app.specs.declared.options.Setting.TheVariants as setting
use Rattle.dl_app.specs.declared.options.Settings.{Settings}
use Rattle.dl_app.specs.Items.{is_item}
use Rattle.dl_app.specs.Settings.{no_settings, also_set}
use Rattle.dl_app.specs.Words.{number_in, small_of, WritesSize}

-- the word of a mode
abbrev pub mode_word : Mode → List ℕ
mode_word ReadWrite = codes "rw"
mode_word ReadOnly = codes "ro"

-- the word of a repair
abbrev pub repair_word : Repair → List ℕ
repair_word Yes = codes "yes"
repair_word No = codes "no"
repair_word Truncate = codes "truncate"

-- the word for whether the notices of a log are wanted
abbrev pub notify_word : Bool → List ℕ
notify_word true = codes "yes"
notify_word false = codes "no"

-- the word of a part in a log
abbrev pub link_word : Link → List ℕ
link_word Owner = codes "owner"
link_word Anonymous = codes "anon"

-- an option writes this setting
abbrev pub WritesSetting : List ℕ → Setting → Type 0
WritesSetting option (setting.Base base) = (word : List ℕ) × IsNameText word × (base ≡ base_from word) × (option ≡ codes "base=" ++ word)
WritesSetting option (setting.Size size) = (word : List ℕ) × WritesSize word size × (option ≡ codes "size=" ++ word)
WritesSetting option (setting.Mode mode) = option ≡ codes "mode=" ++ mode_word mode
WritesSetting option (setting.Repair repair) = option ≡ codes "repair=" ++ repair_word repair
WritesSetting option (setting.Head head) = (is_item head.now ≡ true) × (option ≡ codes "head=" ++ head.now)
WritesSetting option (setting.Notify notify) = option ≡ codes "notify=" ++ notify_word notify
WritesSetting option (setting.Link link) = option ≡ codes "link=" ++ link_word link
WritesSetting option (setting.Hold blocks) = (word : List ℕ) × (small_of (number_in word) ≡ Some blocks) × (option ≡ codes "hold=" ++ word)

-- options write these settings, each option one
abbrev pub WriteSettings : List (List ℕ) → List Setting → Type 0
WriteSettings [] [] = ⊤
WriteSettings [] (s ∷ settings) = ⊥
WriteSettings (option ∷ options) [] = ⊥
WriteSettings (option ∷ options) (s ∷ settings) = WritesSetting option s × WriteSettings options settings

-- two settings of one sort
abbrev pub is_same_sort : Setting → Setting → Bool
is_same_sort (setting.Base base) (setting.Base other) = true
is_same_sort (setting.Size size) (setting.Size other) = true
is_same_sort (setting.Mode mode) (setting.Mode other) = true
is_same_sort (setting.Repair repair) (setting.Repair other) = true
is_same_sort (setting.Head head) (setting.Head other) = true
is_same_sort (setting.Notify notify) (setting.Notify other) = true
is_same_sort (setting.Link link) (setting.Link other) = true
is_same_sort (setting.Hold blocks) (setting.Hold other) = true
is_same_sort s t = false

-- no two settings are of one sort
abbrev pub AreOfOwnSorts : List Setting → Type 0
AreOfOwnSorts [] = ⊤
AreOfOwnSorts (s ∷ settings) = (list_any (is_same_sort s) settings ≡ false) × AreOfOwnSorts settings

-- options of an open: each writes a setting, and no two are of one sort
abbrev pub GiveSettings : List (List ℕ) → List Setting → Type 0
GiveSettings options settings = WriteSettings options settings × AreOfOwnSorts settings

-- all that options set
abbrev pub SetAll : List (List ℕ) → Settings → Type 0
SetAll options all = (settings : List Setting) × GiveSettings options settings × (all ≡ fold also_set no_settings settings)
