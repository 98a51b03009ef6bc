-- The answer to a request for the reason of a fault of the device.
use Rattle.std.specs.Prelude.{ℕ, ℤ, pos, List, ◌∷◌, ◌++◌, Option}
use Rattle.dl_disk.specs.declared.reason.Cause.{Cause}
use Rattle.dl_disk.specs.declared.reason.Cause.TheVariants as cause
use Rattle.dl_disk.specs.declared.reason.Reason.{Reason}
use Rattle.dl_wire.specs.Answer.{file_text}
use Rattle.dl_wire.specs.Parts.{u32_text, i32_text, option_text}

-- the number of a cause
abbrev pub cause_code : Cause → ℕ
cause_code (cause.System number) = 0
cause_code cause.OutOfMemory = 1
cause_code cause.NotPlain = 2
cause_code cause.Shorter = 3
cause_code cause.Lost = 4
cause_code cause.Other = 5

-- the system's error number, or 0 if the system refused nothing
abbrev pub error_number : Cause → ℤ
error_number (cause.System number) = number
error_number _ = pos 0

-- the file, the cause, and the system's error number
abbrev pub reason_text : Reason → List ℕ
reason_text reason = file_text reason.file ++ (cause_code reason.cause ∷ i32_text (error_number reason.cause))

-- a tag, the kind of this answer, and the reason, if one is known
abbrev pub reason_answer : ℕ → Option Reason → List ℕ
reason_answer tag reason = u32_text tag ++ (13 ∷ option_text reason_text reason)
