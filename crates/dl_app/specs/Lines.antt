-- Lines of a script.
use Rattle.std.specs.Prelude.{ℕ, List, [], ◌∷◌, Bool, true, ◌==◌}
use Rattle.dl_lines.specs.declared.fault.LineFault.{LineFault}
use Rattle.dl_lines.specs.declared.fault.LineFault.TheVariants as line
use Rattle.dl_app.specs.declared.fault.ScriptFault.{ScriptFault}
use Rattle.dl_app.specs.declared.fault.ScriptFault.TheVariants as script

-- an empty line, or one that begins with `#`
abbrev pub is_passed_over : List ℕ → Bool
is_passed_over [] = true
is_passed_over (b ∷ bytes) = b == 35

-- the fault of a line that could not be read
abbrev pub unread : LineFault → ScriptFault
unread line.Read = script.Read
unread line.OutOfMemory = script.OutOfMemory
