-- What a counting reader or writer keeps, and what a call does to it.
use Rattle.std.specs.Prelude.{◌⊎◌, ◌+◌, ◌-◌, ◌^◌, ◌<◌, ◌≤◌, ℕ, min, Bool, ◌&&◌, nat_eq}
use Rattle.std.specs.Prelude.{nat_lt, if◌then◌else◌, List, length, Result, Ok, Err}
use Rattle.trace_text.specs.declared.counting.Counting.{Counting}

-- what is wrapped
abbrev pub inner_of : {T : Type 0} → Counting T → T
inner_of c = c.inner

-- how many calls answered a fault
abbrev pub faults_of : {T : Type 0} → Counting T → ℕ
faults_of c = c.faults

-- how many reads were made, up to the greatest u64
abbrev pub reads_of : {T : Type 0} → Counting T → ℕ
reads_of c = c.reads

-- how many writes took no byte of a buffer that had some
abbrev pub idle_writes_of : {T : Type 0} → Counting T → ℕ
idle_writes_of c = c.idle_writes

-- whether the last write or flush was a flush without a fault
abbrev pub is_flushed : {T : Type 0} → Counting T → Bool
is_flushed c = c.is_flushed

-- one more, up to the greatest u64
abbrev pub one_more : ℕ → ℕ
one_more n = min (n + 1) (2 ^ 64 - 1)

-- the count of faults after a call with this answer
abbrev pub faults_after : {A E : Type 0} → Result A E → ℕ → ℕ
faults_after (Ok _) n = n
faults_after (Err _) n = one_more n

-- the count of idle writes after a write of this buffer with this answer
abbrev pub idle_writes_after : {E : Type 0} → Result ℕ E → List ℕ → ℕ → ℕ
idle_writes_after (Ok count) buf n = if nat_eq count 0 && nat_lt 0 (length buf) then one_more n else n
idle_writes_after (Err _) buf n = n

-- the count rose, or was at its end before
abbrev pub Rose : ℕ → ℕ → Type 0
Rose old new = (old < new) ⊎ (2 ^ 64 - 1 ≤ old)
