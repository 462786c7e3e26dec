-- The causes of the faults of a command that has its answer: where its writing ends. And what was read is what there
-- was.
use Rattle.std.proofs.Common.{ℕ, ◌≡◌, ◌≢◌, ◌<◌, List, length, Option, Some, None, IfSome, refl, subst, sym}
use Rattle.trace_text.specs.declared.byte_loops.TheConstants.{MAX_TEXT_BYTES}
use Rattle.trace_text.specs.declared.refusals.WriteError.{WriteError}
use Rattle.trace_text.specs.declared.refusals.WriteError.TheVariants as unwritten
use Rattle.trace_text.specs.ByteLoops.{WroteFront}
use Rattle.trace_text.specs.TextWriting.{WroteBefore}
use Rattle.command_faults.specs.declared.faults.Fault.{Fault}
use Rattle.command_faults.specs.declared.faults.Fault.TheVariants as fault
use Rattle.command_faults.specs.Faults.{fault_of_write}
use Rattle.command_faults.specs.Printing.{IsUntold}
use Rattle.text_commands.specs.Serving.{IsFaultOf, IsReadFault, IsServeFault}
use Rattle.text_commands.specs.Texts.{IsUnreadWhole}

-- what holds of the text that was read holds of the bytes that are known
pub of_known : (P : List ℕ → Type 0) (text : List ℕ) (known : Option (List ℕ)) → IfSome known (λ xs. text ≡ xs) → P text → IfSome known P
of_known P text None same p = tt
of_known P text (Some xs) same p = subst P same p

-- what holds of all bytes holds of those that are known
pub of_all : (P : List ℕ → Type 0) (known : Option (List ℕ)) → ((xs : List ℕ) → P xs) → IfSome known P
of_all P None p = tt
of_all P (Some xs) p = p xs

-- an answer isn't written whole
pub cut : (Gives : List ℕ → List ℕ → Type 0) (Refuses : List ℕ → Fault → Type 0) (text out : List ℕ) (before after : Option (List ℕ))
    (w : Fault) → Gives text out → Refuses text fault.Memory → IsUntold w out before after → IsServeFault Gives Refuses text before after w
cut Gives Refuses text out before after fault.Memory gives memory h = memory
cut Gives Refuses text out before after (fault.Write n) gives memory h = (out, gives, h.0, h.1)
cut Gives Refuses text out before after w gives memory h = absurd h

-- what a text's writer answers is what is reported about a text
pub front-untold : (e : WriteError) (out : List ℕ) (before after : Option (List ℕ))
    → WroteFront e out before after → IsUntold (fault_of_write e) out before after
front-untold (unwritten.Write n) out before after h = h
front-untold unwritten.Memory out before after h = absurd h

pub before-untold : (e : WriteError) (out : List ℕ) (before after : Option (List ℕ))
    → WroteBefore e out before after → IsUntold (fault_of_write e) out before after
before-untold (unwritten.Write n) out before after h = h
before-untold unwritten.Memory out before after h = tt

-- each command may report it
pub write-told : (May : Fault → Type 0) (e : WriteError) → IsFaultOf May (fault_of_write e)
write-told May (unwritten.Write n) = tt
write-told May unwritten.Memory = tt

-- what isn't read whole is reported as a failed read, as out of memory, or as a text that is too large
pub whole-unread : (P : Fault → Type 0) (too_large : Fault) (known : Option (List ℕ)) (w : Fault) → P fault.Read → P fault.Memory
    → (IfSome known (λ text. MAX_TEXT_BYTES < length text) → P too_large) → IsUnreadWhole too_large known w → P w
whole-unread P too_large known fault.Read read memory large h = read
whole-unread P too_large known fault.Memory read memory large h = memory
whole-unread P too_large known w read memory large h = subst P (sym h.0) (large h.1)

-- if the fault is no failed read, the reader met none
pub no-failed_read : (old new : ℕ) (w : Fault) → w ≢ fault.Read → new ≡ old → IsReadFault old new w
no-failed_read old new fault.Read other same = absurd (other refl)
no-failed_read old new w other same = same
