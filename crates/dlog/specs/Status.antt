-- The statuses that the program ends with.
use Rattle.std.specs.Prelude.{◌==◌, ◌&&◌, if◌then◌else◌, ℕ, Bool, true, false, List, [], ◌∷◌, Option, Some, None, Result, Ok, Err}
use Rattle.dl_tool.specs.declared.finding.Finding.{Finding}
use Rattle.dl_tool.specs.declared.finding.Finding.TheVariants as finding
use Rattle.dl_tool.specs.declared.report.Health.{Health}
use Rattle.dl_tool.specs.declared.report.Health.TheVariants.{Clean, Unclean, Unread}
use Rattle.dl_digest.specs.declared.compare.Verdict.{Verdict}
use Rattle.dl_digest.specs.declared.compare.Verdict.TheVariants.{Same, Gone, Shorter, Changed}
use Rattle.dl_app.specs.declared.fault.ScriptFault.{ScriptFault}
use Rattle.dl_app.specs.declared.fault.ScriptFault.TheVariants.{BadLine, Read, Write, OutOfMemory}
use Rattle.dl_pipe.specs.declared.append.Stop.{Stop}
use Rattle.dl_pipe.specs.declared.close.Closing.{Closing}
use Rattle.dl_pipe.specs.declared.close.Closing.TheVariants as closing
use Rattle.dl_pipe.specs.declared.dump.Gap.{Gap}
use Rattle.dl_pipe.specs.declared.fault.PipeFault.{PipeFault}
use Rattle.dl_pipe.specs.declared.fault.PipeFault.TheVariants as fault
use Rattle.dl_serve.specs.declared.left.Left.{Left}
use Rattle.dl_serve.specs.declared.left.Left.TheVariants as left
use Rattle.dl_serve.specs.declared.stream.Ended.{Ended}
use Rattle.dl_serve.specs.declared.stream.Ended.TheVariants as ended
use Rattle.dl_serve.specs.declared.stream.Served.{Served}

-- 2 if the script is wrong, and 1 if it could not be run on
abbrev pub status_of : ScriptFault → ℕ
status_of (BadLine k) = 2
status_of Read = 1
status_of Write = 1
status_of OutOfMemory = 1

-- 0 if all of it was run
abbrev pub status_after : Result (Unit {0}) ScriptFault → ℕ
status_after (Ok done) = 0
status_after (Err fault) = status_of fault

-- 0 if all of it was run, and it is settled
abbrev pub settled_status : Result Bool ScriptFault → ℕ
settled_status (Ok true) = 0
settled_status (Ok false) = 1
settled_status (Err fault) = status_of fault

-- how logs stand: 0 if all are clean, 1 if one is not, or has bad bytes or a wrong count, and 3 if one could not be read
abbrev pub health_status : Health → ℕ
health_status Clean = 0
health_status Unclean = 1
health_status Unread = 3

-- the same for one log
abbrev pub finding_status : Finding → ℕ
finding_status finding.Absent = 1
finding_status (finding.Clean amount) = if (amount.bad == 0) && (amount.miscounted == 0) then 0 else 1
finding_status (finding.Torn amount file kept cut wrong) = 1
finding_status (finding.Refused refusal) = 1
finding_status (finding.Unread file) = 3

-- 0 if no bytes are bad
abbrev pub gaps_status : List Gap → ℕ
gaps_status [] = 0
gaps_status (gap ∷ gaps) = 1

-- 0 if the reader of the output has ended, and 1 if a log was not written out, or items were not logged, to the end
abbrev pub fault_status : PipeFault → ℕ
fault_status (fault.Refused refusal) = 1
fault_status fault.Blocked = 1
fault_status fault.Endless = 1
fault_status fault.Read = 1
fault_status fault.TooLong = 1
fault_status fault.NotEscaped = 1
fault_status fault.Torn = 1
fault_status fault.Write = 1
fault_status fault.ReaderGone = 0
fault_status fault.OutOfMemory = 1

-- 0 if all items were logged
abbrev pub append_status : Option Stop → ℕ
append_status None = 0
append_status (Some stop) = 1

-- 0 if a log was closed, at once or by turns after a fault
abbrev pub closing_status : Closing → ℕ
closing_status closing.Closed = 0
closing_status (closing.Finished file) = 0
closing_status (closing.Lingers file) = 1
closing_status (closing.Refused why) = 1

-- 0 if nothing is left of what waited
abbrev pub left_status : Left → ℕ
left_status left.Nothing = 0
left_status (left.Unwritten log) = 1
left_status left.NoMemory = 1

-- 0 if a stream was served to its end, and nothing is left of what waited
abbrev pub ended_status : Ended → Left → ℕ
ended_status ended.Input rest = left_status rest
ended_status ended.LongFrame rest = 1

-- the same of what became of it
abbrev pub served_status : Served → ℕ
served_status served = ended_status served.ended served.left

-- 0 if items are as they were, or their file gave way to another, and 1 if they are fewer or others
abbrev pub verdict_status : Verdict → ℕ
verdict_status Same = 0
verdict_status Gone = 0
verdict_status Shorter = 1
verdict_status Changed = 1
