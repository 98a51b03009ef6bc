-- Why a call on a folder failed, by the error that the standard library made of it.
use Rattle.std.specs.Prelude.{ℤ, Bool, false, Option, Some, None, if◌then◌else◌}
use Rattle.std.specs.declared.io.Error.{Error}
use Rattle.std.specs.declared.io.ErrorKind.{ErrorKind}
use Rattle.std.specs.declared.io.ErrorKind.TheVariants as kind
use Rattle.std.specs.IoError.{error_kind, raw_os_error}
use Rattle.dl_types.specs.declared.file.FileName.{FileName}
use Rattle.dl_types.specs.FileName.{same_file}
use Rattle.dl_disk.specs.declared.reason.Reason.{Reason}
use Rattle.dl_disk.specs.declared.reason.Cause.{Cause}
use Rattle.dl_disk.specs.declared.reason.Cause.TheVariants.{System, OutOfMemory, NotPlain, Shorter, Lost, Other}

-- the cause of an error that the system gave no number
abbrev pub cause_of_kind : ErrorKind → Cause
cause_of_kind kind.OutOfMemory = OutOfMemory
cause_of_kind kind.Unsupported = NotPlain
cause_of_kind kind.InvalidInput = Shorter
cause_of_kind kind.UnexpectedEof = Shorter
cause_of_kind kind.Other = Lost
cause_of_kind _ = Other

-- the cause of an error: the system's number, if there is one
abbrev pub cause_by : Option ℤ → ErrorKind → Cause
cause_by (Some number) k = System number
cause_by None k = cause_of_kind k

abbrev pub cause_of : Error → Cause
cause_of error = cause_by (raw_os_error error) (error_kind error)

-- the system's number of a cause
abbrev pub number_of : Cause → Option ℤ
number_of (System number) = Some number
number_of _ = None

-- a sync that fails since an earlier one of the file did has the reason of that one
abbrev pub stays : Reason → FileName → Cause → Bool
stays earlier file Lost = same_file earlier.file file
stays earlier file _ = false

-- the last reason after a call on a file failed
abbrev pub reason_after : Option Reason → FileName → Cause → Reason
reason_after None file cause = record { file = file; cause = cause }
reason_after (Some earlier) file cause = if stays earlier file cause then earlier else record { file = file; cause = cause }
