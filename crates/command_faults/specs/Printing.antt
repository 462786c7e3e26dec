-- What a text that wasn't printed whole left behind.
use Rattle.std.specs.Prelude.{◌≡◌, ◌≤◌, ◌⊎◌, ℕ, List, length, take, Option, IsTrue, ⊤}
use Rattle.std.specs.Io.KnownBytes.{Appends}
use Rattle.trace_text.specs.declared.counting.Counting.{Counting}
use Rattle.trace_text.specs.declared.refusals.WriteError.{WriteError}
use Rattle.trace_text.specs.ByteLoops.{MetOneFault, WroteFront}
use Rattle.trace_text.specs.Faults.{inner_of, is_flushed}
use Rattle.trace_text.specs.TextWriting.{Wrote}
use Rattle.command_faults.specs.declared.faults.Fault.{Fault}
use Rattle.command_faults.specs.declared.faults.Fault.TheVariants as fault

-- the output failed or took nothing, after that many first bytes of the text went out
abbrev pub IsUnprinted : Fault → List ℕ → Option (List ℕ) → Option (List ℕ) → Type 0
IsUnprinted (fault.Write n) text before after = (n ≤ length text) × Appends before after (take n text)
IsUnprinted _ text before after = ⊥

-- the same, or out of memory for the text
abbrev pub IsUntold : Fault → List ℕ → Option (List ℕ) → Option (List ℕ) → Type 0
IsUntold fault.Memory text before after = ⊤
IsUntold why text before after = IsUnprinted why text before after

-- if the fault is a failed write, one call of the writer answered a fault or took no byte; after any
-- other fault the writer is unchanged
abbrev pub IsWriteFault : {T : Type 0} → Counting T → Counting T → Fault → Type 0
IsWriteFault old new (fault.Write n) = MetOneFault old new
IsWriteFault old new _ = new ≡ old

-- a text went out whole, and was flushed; or the writer met a fault, after so many of its first bytes
abbrev pub WentOut : {T : Type 0} → (T → Option (List ℕ)) → Counting T → Counting T → List ℕ → Type 0
WentOut taken old new text = (Wrote taken old new text × IsTrue (is_flushed new))
    ⊎ ((e : WriteError) × WroteFront e text (taken (inner_of old)) (taken (inner_of new)) × MetOneFault old new)
