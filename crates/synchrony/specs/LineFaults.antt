-- The fault that a refused command line is.
use Rattle.command_line.specs.declared.line_errors.LineError.{LineError}
use Rattle.command_line.specs.declared.line_errors.LineError.TheVariants as unread
use Rattle.command_faults.specs.declared.faults.Fault.{Fault}
use Rattle.command_faults.specs.declared.faults.Fault.TheVariants as fault

-- the words of a refusal are the fault's
abbrev pub fault_of_line : LineError → Fault
fault_of_line (unread.Refused words) = fault.Command words
fault_of_line unread.Memory = fault.Memory
