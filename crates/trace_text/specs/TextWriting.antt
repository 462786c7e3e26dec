-- What `write_trace`, or another call that makes a text first and then writes it, did.
use Rattle.std.specs.Prelude.{◌≡◌, ◌≤◌, ℕ, List, length, take, Option}
use Rattle.std.specs.Io.KnownBytes.{Appends}
use Rattle.trace_text.specs.declared.counting.Counting.{Counting}
use Rattle.trace_text.specs.declared.refusals.WriteError.{WriteError}
use Rattle.trace_text.specs.declared.refusals.WriteError.TheVariants as fault
use Rattle.trace_text.specs.ByteLoops.{MetOneFault}
use Rattle.trace_text.specs.Faults.{inner_of}

-- the text went out, and nothing else (`taken` is what a writer has taken)
abbrev pub Wrote : {W : Type 0} → (W → Option (List ℕ)) → Counting W → Counting W → List ℕ → Type 0
Wrote taken old new text = Appends (taken (inner_of old)) (taken (inner_of new)) text

-- what went out before a refusal: the text's first bytes, and nothing if out of memory
abbrev pub WroteBefore : WriteError → List ℕ → Option (List ℕ) → Option (List ℕ) → Type 0
WroteBefore (fault.Write n) text old new = (n ≤ length text) × Appends old new (take n text)
WroteBefore fault.Memory text old new = new ≡ old

-- that went out before a refusal, by the bytes that the writer has taken
abbrev pub WrotePart : {W : Type 0} → (W → Option (List ℕ)) → Counting W → Counting W → List ℕ → WriteError → Type 0
WrotePart taken old new text e = WroteBefore e text (taken (inner_of old)) (taken (inner_of new))

-- a write is refused for a fault or for a write that took no byte; out of memory leaves the writer unchanged
abbrev pub IsWriteCause : {T : Type 0} → WriteError → Counting T → Counting T → Type 0
IsWriteCause (fault.Write n) old new = MetOneFault old new
IsWriteCause fault.Memory old new = new ≡ old
