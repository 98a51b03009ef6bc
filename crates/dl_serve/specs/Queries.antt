-- The frames that answer questions of what the hub knows. A tag of 0 asks for none.
use Rattle.std.specs.Prelude.{◌==◌, ℕ, List, [], Option, if◌then◌else◌}
use Rattle.dl_types.specs.declared.name.Name.{Name}
use Rattle.dl_disk.specs.declared.reason.Reason.{Reason}
use Rattle.dl_wire.specs.Answer.{frame_text}
use Rattle.dl_wire.specs.Logs.{logs_answer}
use Rattle.dl_wire.specs.Reason.{reason_answer}

-- why the device failed
abbrev pub reason_frame : ℕ → Option Reason → List ℕ
reason_frame tag reason = if tag == 0 then [] else frame_text (reason_answer tag reason)

-- which logs are open
abbrev pub logs_frame : ℕ → List Name → List ℕ
logs_frame tag logs = if tag == 0 then [] else frame_text (logs_answer tag logs)
