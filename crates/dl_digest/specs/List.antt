-- Digests that were written before.
use Rattle.dl_lines.specs.declared.fault.LineFault.{LineFault}
use Rattle.dl_lines.specs.declared.fault.LineFault.TheVariants as line
use Rattle.dl_digest.specs.declared.list.ListFault.{ListFault}
use Rattle.dl_digest.specs.declared.list.ListFault.TheVariants as fault

-- the fault of an input that could not be read
abbrev pub fault_of : LineFault → ListFault
fault_of line.Read = fault.Read
fault_of line.OutOfMemory = fault.OutOfMemory
