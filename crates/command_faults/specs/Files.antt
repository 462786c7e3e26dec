-- The faults of files that can't be opened or read, and of standard output that can't be written, by the kinds of the
-- errors.
use Rattle.std.specs.Prelude.{String}
use Rattle.std.specs.declared.alloc.Global.{Global}
use Rattle.std.specs.declared.io.ErrorKind.{ErrorKind}
use Rattle.std.specs.declared.io.ErrorKind.TheVariants.{IsADirectory, NotFound, OutOfMemory, PermissionDenied}
use Rattle.std.specs.declared.io.ErrorKind.TheVariants.{FileTooLarge, QuotaExceeded, StorageFull}
use Rattle.command_faults.specs.declared.files.FileTrouble.{FileTrouble}
use Rattle.command_faults.specs.declared.files.FileTrouble.TheVariants as trouble
use Rattle.command_faults.specs.declared.files.OutputTrouble.{OutputTrouble}
use Rattle.command_faults.specs.declared.files.OutputTrouble.TheVariants as output_trouble
use Rattle.command_faults.specs.declared.faults.Fault.{Fault}
use Rattle.command_faults.specs.declared.faults.Fault.TheVariants as fault

-- why a file can't be opened
abbrev pub opening_trouble : ErrorKind → FileTrouble
opening_trouble NotFound = trouble.NoSuchFile
opening_trouble PermissionDenied = trouble.PermissionDenied
opening_trouble IsADirectory = trouble.IsADirectory
opening_trouble kind = trouble.Unopened

-- the fault of a file that can't be opened; out of memory is a fault of its own
abbrev pub fault_of_opening : String Global → ErrorKind → Fault
fault_of_opening file OutOfMemory = fault.Memory
fault_of_opening file kind = fault.Unread file (opening_trouble kind)

-- why a file that was opened can't be read
abbrev pub reading_trouble : ErrorKind → FileTrouble
reading_trouble IsADirectory = trouble.IsADirectory
reading_trouble kind = trouble.Unread

-- a failed read with the file's name; any other fault unchanged
abbrev pub fault_of_reading : Fault → String Global → ErrorKind → Fault
fault_of_reading fault.Read file kind = fault.Unread file (reading_trouble kind)
fault_of_reading w file kind = w

-- why standard output can't be written
abbrev pub writing_trouble : ErrorKind → OutputTrouble
writing_trouble StorageFull = output_trouble.NoSpace
writing_trouble QuotaExceeded = output_trouble.QuotaExceeded
writing_trouble FileTooLarge = output_trouble.FileTooLarge
writing_trouble kind = output_trouble.Unwritten

-- a failed write with its reason; any other fault unchanged
abbrev pub fault_of_writing : Fault → ErrorKind → Fault
fault_of_writing (fault.Write written) kind = fault.Unwritten (writing_trouble kind)
fault_of_writing w kind = w
