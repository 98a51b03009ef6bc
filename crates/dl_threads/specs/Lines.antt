-- Lines of a script.
use Rattle.std.specs.Prelude.{◌≡◌, ◌⊎◌, ℕ, List, Bool, true, false, All, Vec, map, codes}
use Rattle.dl_app.specs.declared.command.Command.{Command}
use Rattle.dl_app.specs.Command.{IsForm}
use Rattle.dl_app.specs.Lines.{is_passed_over}
use Rattle.dl_app.specs.Words.{words_of}

-- a line that is passed over, or has a form
abbrev pub HasForm : List ℕ → Type 0
HasForm line = (is_passed_over line ≡ true) ⊎ ((command : Command) × IsForm (words_of line) command)

-- each of these lines
abbrev pub HaveForms : List (List ℕ) → Type 0
HaveForms lines = All HasForm lines

-- the bytes of each line
abbrev pub texts_of : {Z : Type 0} → List (Vec ℕ Z) → List (List ℕ)
texts_of lines = map (λ line. line.items) lines

-- the line that reports on a script that was run
abbrev pub told : Bool → List ℕ
told true = codes "settled\n"
told false = codes "not settled\n"
