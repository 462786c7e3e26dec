-- What the failing devices have left and what they took.
use Rattle.std.specs.Prelude.{ℕ, ◌-◌, ◌^◌, ◌&&◌, nat_eq, nat_lt, if◌then◌else◌, List, [], ◌∷◌}
use Rattle.std.specs.Prelude.{length, take, replicate, min, max, Option, Some, None, vec_len}
use Rattle.std.specs.declared.io.ErrorKind.{ErrorKind}
use Rattle.trace_text.specs.declared.failing_devices.AfterBytes.{AfterBytes}
use Rattle.trace_text.specs.declared.failing_devices.AfterBytes.TheVariants.{End, Fail, Repeat}
use Rattle.trace_text.specs.declared.failing_devices.FailingReader.{FailingReader}
use Rattle.trace_text.specs.declared.failing_devices.FailingWriter.{FailingWriter}
use Rattle.trace_text.specs.declared.failing_devices.WriteFailure.{WriteFailure}
use Rattle.trace_text.specs.declared.failing_devices.WriteFailure.TheVariants as failure

-- the bytes that a reader of these gives, if it ends
abbrev pub known_bytes : List ℕ → AfterBytes → Option (List ℕ)
known_bytes bytes End = Some bytes
known_bytes bytes (Fail _) = Some bytes
known_bytes bytes (Repeat _) = None

-- the bytes that a reader was given and didn't give yet
abbrev pub held_by : FailingReader → List ℕ
held_by r = r.bytes.now

-- the bytes that a reader has left, if it ends
abbrev pub left_in : FailingReader → Option (List ℕ)
left_in r = known_bytes r.bytes.now r.after

-- what a reader does once its bytes are read
abbrev pub after_of : FailingReader → AfterBytes
after_of r = r.after

-- the most bytes that one read gives; 0 denotes 1
abbrev pub read_piece_of : FailingReader → ℕ
read_piece_of r = r.piece

-- how many reads were made, up to the greatest u64
abbrev pub reads_made : FailingReader → ℕ
reads_made r = r.reads

-- how many bytes a reader has for a read of so many
abbrev pub ready_for : List ℕ → AfterBytes → ℕ → ℕ
ready_for [] (Repeat byte) room = room
ready_for [] End room = 0
ready_for [] (Fail kind) room = 0
ready_for (b ∷ bs) after room = length (b ∷ bs)

-- how many bytes a read gives into a buffer of this length
abbrev pub read_count : FailingReader → ℕ → ℕ
read_count r room = min (min (max r.piece 1) room) (ready_for r.bytes.now r.after room)

-- the next so many bytes of a reader: of those that it was given, or the one that it repeats after them
abbrev pub next_bytes : List ℕ → AfterBytes → ℕ → List ℕ
next_bytes [] (Repeat byte) n = replicate n byte
next_bytes held after n = take n held

-- the kind of the fault that a read answers, if it fails
abbrev pub read_fault : List ℕ → AfterBytes → Option ErrorKind
read_fault [] (Fail kind) = Some kind
read_fault held after = None

-- the bytes that a writer took
abbrev pub taken_by : FailingWriter → List ℕ
taken_by w = w.taken.items

-- the most bytes that one write takes; 0 denotes 1
abbrev pub piece_of : FailingWriter → ℕ
piece_of w = w.piece

-- where a writer fails
abbrev pub failure_of : FailingWriter → WriteFailure
failure_of w = w.failure

-- how many writes were made, up to the greatest u64
abbrev pub writes_made : FailingWriter → ℕ
writes_made w = w.writes

-- how many flushes were made, up to the greatest u64
abbrev pub flushes_made : FailingWriter → ℕ
flushes_made w = w.flushes

-- how many bytes a writer takes before its writes fail
abbrev pub write_limit : WriteFailure → ℕ
write_limit (failure.FailAfter limit _) = limit
write_limit (failure.TakeNothingAfter limit) = limit
write_limit _ = 2 ^ 64 - 1

-- how many more bytes a writer takes before its writes fail
abbrev pub room_in : FailingWriter → ℕ
room_in w = write_limit w.failure - vec_len w.taken

-- how many bytes a write takes of so many
abbrev pub write_count : FailingWriter → ℕ → ℕ
write_count w offered = min (min (max w.piece 1) (room_in w)) offered

-- the kind of the faults of writes without room, except out of memory
abbrev pub fault_without_room : WriteFailure → Option ErrorKind
fault_without_room (failure.FailAfter _ kind) = Some kind
fault_without_room _ = None

-- the kind of the fault that a write of so many bytes answers, if it should fail
abbrev pub write_fault : FailingWriter → ℕ → Option ErrorKind
write_fault w offered =
    if nat_eq (room_in w) 0 && nat_lt 0 offered then fault_without_room w.failure else None

-- the kind of the faults of flushes
abbrev pub flush_fault : WriteFailure → Option ErrorKind
flush_fault (failure.FailFlush kind) = Some kind
flush_fault _ = None
