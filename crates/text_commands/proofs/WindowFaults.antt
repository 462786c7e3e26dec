-- The causes of the faults of an import of a window.
use Rattle.std.proofs.Common.{◌≡◌, ℕ, List, Option, Some, None, IfSome, Err, inl, inr, refl, subst}
use Rattle.trace_text.specs.declared.counting.Counting.{Counting}
use Rattle.trace_text.specs.Faults.{Rose}
use Rattle.trace_text.proofs.Bytes.{rose_by_one}
use Rattle.event_log.specs.declared.options.Options.{Options}
use Rattle.event_log.specs.declared.refusals.LogError.{LogError}
use Rattle.event_log.specs.declared.refusals.LogError.TheVariants as no_log
use Rattle.event_log.specs.declared.times.LogEnd.{LogEnd}
use Rattle.log_windows.specs.declared.devices.WindowError.{WindowError}
use Rattle.log_windows.specs.declared.devices.WindowError.TheVariants as unread
use Rattle.log_windows.specs.declared.reading.LogWindow.{LogWindow}
use Rattle.log_windows.specs.Devices.{faults_after_rows}
use Rattle.log_windows.specs.LogWindows.{IsWindow, IsWindowOf, IsWindowRefusal}
use Rattle.command_options.specs.declared.ImportForm.{ImportForm}
use Rattle.command_options.specs.declared.ImportForm.TheVariants as forms
use Rattle.command_faults.specs.declared.faults.Fault.{Fault}
use Rattle.command_faults.specs.declared.faults.Fault.TheVariants as fault
use Rattle.command_faults.specs.Faults.{fault_of_log}
use Rattle.command_faults.specs.Printing.{IsWriteFault}
use Rattle.text_commands.specs.Imports.{IsToldOfLogs}
use Rattle.text_commands.specs.Serving.{IsFaultOf, IsReadFault, IsServeFault}
use Rattle.text_commands.specs.Windows.{IsRefusalOfWindow, IsToldOfWindow, IsUnreadWindow, IsUntoldOfWindow, IsWindowTold, IsWindowless}

-- the fault of a refusal has its cause in the window
pub refused-untold : (form : ImportForm) (o : Options) (w : LogWindow) (why : LogError)
    → IsRefusalOfWindow form o w why → IsUntoldOfWindow form o w (fault_of_log why)
refused-untold form o w no_log.Memory h = tt
refused-untold form o w why h = (h, λ e. absurd (cc e))

-- or in the log
log-unread : (o : Options) (from : LogEnd) (known : Option (List ℕ)) (why : LogError)
    → IfSome known (IsWindowRefusal o.unit from o.until (unread.Log why))
    → IsUnreadWindow o from known (fault_of_log why)
log-unread o from known no_log.Memory h = tt
log-unread o from known why h = (h, λ e. absurd (cc e))

pub refused-unread : (o : Options) (from : LogEnd) (known : Option (List ℕ)) (e : WindowError) (why : LogError)
    → e ≡ unread.Log why → IfSome known (IsWindowRefusal o.unit from o.until e) → IsUnreadWindow o from known (fault_of_log why)
refused-unread o from known e why is h = log-unread o from known why
    (subst (λ (x : WindowError). IfSome known (IsWindowRefusal o.unit from o.until x)) is h)

-- and then no read failed
log-faultless : (old new : ℕ) (why : LogError) → new ≡ old → IsReadFault old new (fault_of_log why)
log-faultless old new no_log.Memory same = same
log-faultless old new why same = same

pub refused-faultless : (A : Type 0) (old new : ℕ) (e : WindowError) (why : LogError)
    → e ≡ unread.Log why → new ≡ faults_after_rows {A = A} (Err e) old → IsReadFault old new (fault_of_log why)
refused-faultless A old new e why is h = log-faultless old new why
    (subst (λ (x : WindowError). new ≡ faults_after_rows {A = A} (Err x) old) is h)

-- a failed read is counted
pub unread-rose : (A : Type 0) (old new : ℕ) (e : WindowError)
    → e ≡ unread.Read → new ≡ faults_after_rows {A = A} (Err e) old → Rose old new
unread-rose A old new e is h = rose_by_one old old new refl (subst (λ (x : WindowError). new ≡ faults_after_rows {A = A} (Err x) old) is h)

-- a window isn't read
pub unread-served : (form : ImportForm) (o : Options)
    (from : LogEnd) (Told : List ℕ → Type 0) (before after known : Option (List ℕ)) (w : Fault) → IsUnreadWindow o from known w
    → IfSome known (λ text. IsServeFault (IsWindowTold form o from Told) (IsWindowless form o from) text before after w)
unread-served form o from Told before after None w h = tt
unread-served form o from Told before after (Some text) fault.Read h = tt
unread-served form o from Told before after (Some text) fault.Memory h = tt
unread-served form o from Told before after (Some text) (fault.Log reason) h = (inl h.0, h.1)
unread-served form o from Told before after (Some text) w h = absurd h

pub unread-told : (o : Options) (from : LogEnd) (known : Option (List ℕ)) (w : Fault)
    → IsUnreadWindow o from known w → IsFaultOf IsToldOfLogs w
unread-told o from known fault.Read h = tt
unread-told o from known fault.Memory h = tt
unread-told o from known (fault.Log reason) h = h.1
unread-told o from known w h = absurd h

pub unread-unwritten : {T : Type 0} (writer : Counting T) (o : Options) (from : LogEnd) (known : Option (List ℕ)) (w : Fault)
    → IsUnreadWindow o from known w → IsWriteFault writer writer w
unread-unwritten writer o from known fault.Read h = refl
unread-unwritten writer o from known fault.Memory h = refl
unread-unwritten writer o from known (fault.Log reason) h = refl
unread-unwritten writer o from known w h = absurd h

-- a window is refused
pub untold-served : (form : ImportForm) (o : Options) (from : LogEnd) (Told : List ℕ → Type 0)
    (before after known : Option (List ℕ)) (window : LogWindow) (w : Fault)
    → IsWindowOf o.unit from o.until known window → IsUntoldOfWindow form o window w
    → IfSome known (λ text. IsServeFault (IsWindowTold form o from Told) (IsWindowless form o from) text before after w)
untold-served form o from Told before after None window w is h = tt
untold-served form o from Told before after (Some text) window fault.Memory is h = tt
untold-served form o from Told before after (Some text) window (fault.Log reason) is h =
    (inr (window, subst (λ xs. IsWindow o.unit from o.until xs window) is.is is.window, h.0), h.1)
untold-served form o from Told before after (Some text) window w is h = absurd h

pub untold-told : (form : ImportForm) (o : Options) (window : LogWindow) (w : Fault)
    → IsUntoldOfWindow form o window w → IsFaultOf IsToldOfLogs w
untold-told form o window fault.Memory h = tt
untold-told form o window (fault.Log reason) h = h.1
untold-told form o window w h = absurd h

pub untold-faultless : (old new : ℕ) (form : ImportForm) (o : Options) (window : LogWindow) (w : Fault)
    → IsUntoldOfWindow form o window w → new ≡ old → IsReadFault old new w
untold-faultless old new form o window fault.Memory h same = same
untold-faultless old new form o window (fault.Log reason) h same = same
untold-faultless old new form o window w h same = absurd h

pub untold-unwritten : {T : Type 0} (writer : Counting T) (form : ImportForm) (o : Options) (window : LogWindow) (w : Fault)
    → IsUntoldOfWindow form o window w → IsWriteFault writer writer w
untold-unwritten writer form o window fault.Memory h = refl
untold-unwritten writer form o window (fault.Log reason) h = refl
untold-unwritten writer form o window w h = absurd h

-- what holds of a text holds of the notes that it is
pub now_told : (form : ImportForm) (o : Options) (Told : List ℕ → Type 0) (notes : List ℕ) (w : LogWindow)
    (out : List ℕ) → IsToldOfWindow form o (λ n. notes ≡ n) w out → Told notes → IsToldOfWindow form o Told w out
now_told forms.Trace o Told notes w out t h = record { import = t.import; exact = t.exact; written = t.written; told = subst Told t.told h }
now_told forms.Table o Told notes w out t h = record { import = t.import; exact = t.exact; told = subst Told t.told h }
now_told forms.Ticks o Told notes w out t h =
    record { kind = t.kind; rows = t.rows; exact = t.exact; written = t.written; told = subst Told t.told h }
