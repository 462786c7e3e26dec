-- The causes of the faults of an import.
use Rattle.std.proofs.Common.{◌≡◌, ◌<◌, ℕ, List, length, Option, Some, None, IfSome, arith, inl, refl, subst}
use Rattle.std.specs.Prelude.{Bool, true, false, MatchBool, ⊤}
use Rattle.trace_text.specs.declared.byte_loops.TheConstants.{MAX_TEXT_BYTES}
use Rattle.trace_text.specs.declared.counting.Counting.{Counting}
use Rattle.event_log.specs.declared.options.Options.{Options}
use Rattle.event_log.specs.declared.refusals.LogError.{LogError}
use Rattle.event_log.specs.declared.refusals.LogError.TheVariants as no_log
use Rattle.event_log.specs.TickTables.{with_width}
use Rattle.event_log.proofs.LogRefusals.{large-text}
use Rattle.log_windows.specs.declared.reading.LogWindow.{LogWindow}
use Rattle.log_windows.specs.LogImports.{IsSpreadRefusal}
use Rattle.log_windows.specs.Lists.{may_list}
use Rattle.log_windows.specs.WindowImports.{IsWindowImportRefusal, IsWindowTicksRefusal}
use Rattle.command_options.specs.declared.ImportForm.{ImportForm}
use Rattle.command_options.specs.declared.ImportForm.TheVariants as forms
use Rattle.command_faults.specs.declared.faults.Fault.{Fault}
use Rattle.command_faults.specs.declared.faults.Fault.TheVariants as fault
use Rattle.command_faults.specs.Faults.{fault_of_log}
use Rattle.text_commands.specs.Imports.{IsImportTold, IsRefusalFor, IsToldOfLogs, IsUnimported}
use Rattle.command_faults.specs.Printing.{IsWriteFault}
use Rattle.text_commands.specs.Serving.{IsFaultOf, IsServeFault}
use Rattle.text_commands.specs.Texts.{IsUnreadWhole}
use Rattle.text_commands.proofs.WrittenAnswers.{of_all, whole-unread}

-- the fault of a refusal has its cause in the log
pub refused-unimported : (form : ImportForm) (o : Options) (text : List ℕ) (why : LogError)
    → IsRefusalFor form o text why → IsUnimported form o text (fault_of_log why)
refused-unimported form o text no_log.Memory h = tt
refused-unimported form o text why h = (h, λ e. absurd (cc e))

large-listed : (P : LogWindow → Type 0) (Q : Type 0) (text : List ℕ)
    → MAX_TEXT_BYTES < length text → (listed : Bool) → Q → MatchBool listed (IsSpreadRefusal P text no_log.TooLarge) Q
large-listed P Q text h true q = inl (inl (h, refl))
large-listed P Q text h false q = q

-- a log that is too large is refused for that
large-refused : (form : ImportForm) (o : Options) (text : List ℕ) → MAX_TEXT_BYTES < length text → IsRefusalFor form o text no_log.TooLarge
large-refused forms.Trace o text h = large-listed (λ w. IsWindowImportRefusal o w no_log.TooLarge) _ text h
    (may_list text) (inl (large-text o text h))
large-refused forms.Table o text h = large-listed (λ w. IsWindowImportRefusal o w no_log.TooLarge) _ text h
    (may_list text) (inl (large-text o text h))
large-refused forms.Ticks o text h = large-listed (λ w. IsWindowTicksRefusal o w no_log.TooLarge) _ text h
    (may_list text) (1, omega arith, inl (large-text (with_width o 1) text h), λ e. absurd (cc e))

large-served : (form : ImportForm) (o : Options) (Told : List ℕ → Type 0) (before after known : Option (List ℕ))
    → IfSome known (λ text. MAX_TEXT_BYTES < length text)
    → IfSome known (λ text. IsServeFault (IsImportTold form o Told) (IsUnimported form o) text before after (fault.Log no_log.TooLarge))
large-served form o Told before after None h = tt
large-served form o Told before after (Some text) h = (large-refused form o text h, λ r. cc)

-- a log isn't read to its end
pub unread-served : (form : ImportForm) (o : Options) (Told : List ℕ → Type 0) (before after known : Option (List ℕ)) (w : Fault)
    → IsUnreadWhole (fault.Log no_log.TooLarge) known w
    → IfSome known (λ text. IsServeFault (IsImportTold form o Told) (IsUnimported form o) text before after w)
unread-served form o Told before after known w h = whole-unread (λ x. IfSome known
    (λ text. IsServeFault (IsImportTold form o Told) (IsUnimported form o) text before after x)) (fault.Log no_log.TooLarge) known w
    (of_all (λ text. ⊤) known (λ text. tt)) (of_all (λ text. ⊤) known (λ text. tt)) (large-served form o Told before after known) h

pub unread-told : (known : Option (List ℕ)) (w : Fault) → IsUnreadWhole (fault.Log no_log.TooLarge) known w → IsFaultOf IsToldOfLogs w
unread-told known w h = whole-unread (IsFaultOf IsToldOfLogs) (fault.Log no_log.TooLarge) known w tt tt (λ large e. cc) h

pub unread-unwritten : {T : Type 0} (writer : Counting T) (known : Option (List ℕ)) (w : Fault)
    → IsUnreadWhole (fault.Log no_log.TooLarge) known w → IsWriteFault writer writer w
unread-unwritten writer known w h = whole-unread (λ x. IsWriteFault writer writer x)
    (fault.Log no_log.TooLarge) known w refl refl (λ large. refl) h

-- what holds of a text holds of the notes that it is
pub now_told : (form : ImportForm) (o : Options) (Told : List ℕ → Type 0) (notes text out : List ℕ)
    → IsImportTold form o (λ n. notes ≡ n) text out → Told notes → IsImportTold form o Told text out
now_told forms.Trace o Told notes text out t h =
    record { import = t.import; exact = t.exact; written = t.written; told = subst Told t.told h }
now_told forms.Table o Told notes text out t h =
    record { import = t.import; exact = t.exact; written = t.written; told = subst Told t.told h }
now_told forms.Ticks o Told notes text out t h =
    record { kind = t.kind; rows = t.rows; exact = t.exact; written = t.written; told = subst Told t.told h }
