-- How a job ends that stopped for a fault.
use Rattle.std.specs.Prelude.{ℕ, Option, Some, None, Result, Ok, Err}
use Rattle.std.specs.declared.io.ErrorKind.{ErrorKind}
use Rattle.std.specs.declared.io.ErrorKind.TheVariants.{BrokenPipe}
use Rattle.command_faults.specs.declared.faults.Fault.{Fault}
use Rattle.command_faults.specs.declared.faults.Fault.TheVariants as fault
use Rattle.command_faults.specs.Files.{fault_of_writing}
use Rattle.synchrony.specs.declared.outputs.TheConstants.{CLOSED_PIPE}

-- after a failed write, which may have answered an error of some kind: without a word if nobody reads the pipe any
-- more, and else for the reason that the error gives
abbrev pub stopped_write : Option ErrorKind → ℕ → Result ℕ Fault
stopped_write None written = Err (fault.Write written)
stopped_write (Some BrokenPipe) written = Ok CLOSED_PIPE
stopped_write (Some kind) written = Err (fault_of_writing (fault.Write written) kind)

-- after any fault
abbrev pub stopped : Option ErrorKind → Fault → Result ℕ Fault
stopped failure (fault.Write written) = stopped_write failure written
stopped failure w = Err w
