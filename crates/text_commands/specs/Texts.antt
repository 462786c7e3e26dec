-- Why a text isn't read whole.
use Rattle.std.specs.Prelude.{ℕ, ◌≡◌, ◌<◌, List, length, Option, IfSome, ⊤}
use Rattle.trace_text.specs.declared.byte_loops.TheConstants.{MAX_TEXT_BYTES}
use Rattle.command_faults.specs.declared.faults.Fault.{Fault}
use Rattle.command_faults.specs.declared.faults.Fault.TheVariants as fault

-- a read failed, or out of memory; or else it is the fault of a text that is too large, as this one is
abbrev pub IsUnreadWhole : Fault → Option (List ℕ) → Fault → Type 0
IsUnreadWhole too_large known fault.Read = ⊤
IsUnreadWhole too_large known fault.Memory = ⊤
IsUnreadWhole too_large known w = (w ≡ too_large) × IfSome known (λ text. MAX_TEXT_BYTES < length text)
