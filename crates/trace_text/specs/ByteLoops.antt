-- What `read_all` and `write_text` answer.
use Rattle.std.specs.Prelude.{◌≡◌, ◌⊎◌, ◌≤◌, ◌<◌, ◌-◌, ℕ, List, length, take}
use Rattle.std.specs.Prelude.{⊤, Option, Some, None, IfSome, Result, Err}
use Rattle.std.specs.Io.KnownBytes.{Appends}
use Rattle.trace_text.specs.declared.byte_loops.TheConstants.{MAX_TEXT_BYTES}
use Rattle.trace_text.specs.declared.counting.Counting.{Counting}
use Rattle.trace_text.specs.declared.refusals.TextError.{TextError}
use Rattle.trace_text.specs.declared.refusals.TextError.TheVariants as why
use Rattle.trace_text.specs.declared.refusals.WriteError.{WriteError}
use Rattle.trace_text.specs.declared.refusals.WriteError.TheVariants as fault
use Rattle.trace_text.specs.Faults.{faults_of, idle_writes_of, one_more, Rose}

-- the refusals of `read_all`
abbrev pub IsReadRefusal : TextError → Type 0
IsReadRefusal why.TooLarge = ⊤
IsReadRefusal why.Read = ⊤
IsReadRefusal why.Memory = ⊤
IsReadRefusal _ = ⊥

-- how many bytes were read, if those that a reader has left are known before and after
abbrev pub bytes_read : Option (List ℕ) → Option (List ℕ) → Option ℕ
bytes_read (Some before) (Some after) = Some (length before - length after)
bytes_read _ _ = None

-- `read_all` refuses for a cause: too many bytes, a fault that was counted, or out of memory
abbrev pub ReadRefusedFor : TextError → ℕ → ℕ → Option (List ℕ) → Type 0
ReadRefusedFor why.TooLarge old new known = IfSome known (λ xs. MAX_TEXT_BYTES < length xs)
ReadRefusedFor why.Read old new known = Rose old new
ReadRefusedFor why.Memory old new known = ⊤
ReadRefusedFor _ old new known = ⊥

-- the count of faults after `read_all`: one more if it answers Read
abbrev pub faults_after_reading : {A : Type 0} → Result A TextError → ℕ → ℕ
faults_after_reading (Err why.Read) n = one_more n
faults_after_reading _ n = n

-- what went out before a fault is that much of the text's front
abbrev pub WroteFront : WriteError → List ℕ → Option (List ℕ) → Option (List ℕ) → Type 0
WroteFront (fault.Write n) text old new = (n ≤ length text) × Appends old new (take n text)
WroteFront fault.Memory text old new = ⊥

-- no call answered a fault, and each write took a byte
abbrev pub WasFaultless : {T : Type 0} → Counting T → Counting T → Type 0
WasFaultless old new = (faults_of new ≡ faults_of old) × (idle_writes_of new ≡ idle_writes_of old)

-- one call answered a fault, or one write took no byte
abbrev pub MetOneFault : {T : Type 0} → Counting T → Counting T → Type 0
MetOneFault old new = ((faults_of new ≡ one_more (faults_of old)) × (idle_writes_of new ≡ idle_writes_of old))
    ⊎ ((faults_of new ≡ faults_of old) × (idle_writes_of new ≡ one_more (idle_writes_of old)))
