-- What the program makes of a window of a log in an import.
use Rattle.std.specs.Prelude.{ℕ, ◌≡◌, ◌≢◌, ◌⊎◌, ◌++◌, List, Option, IfSome, ⊤}
use Rattle.event_log.specs.declared.imports.Import.{Import}
use Rattle.event_log.specs.declared.options.Options.{Options}
use Rattle.event_log.specs.declared.refusals.LogError.{LogError}
use Rattle.event_log.specs.declared.refusals.LogError.TheVariants as no_log
use Rattle.event_log.specs.declared.tick_rows.TickRow.{TickRow}
use Rattle.event_log.specs.declared.times.LogEnd.{LogEnd}
use Rattle.event_log.specs.declared.times.TimeKind.{TimeKind}
use Rattle.event_log.specs.Options.{HasBadUntil}
use Rattle.event_log.specs.TickTables.{IsTickTable}
use Rattle.log_windows.specs.declared.reading.LogWindow.{LogWindow}
use Rattle.log_windows.specs.LogWindows.{HasNoWindow, IsWindow}
use Rattle.log_windows.specs.WindowImports.{IsWindowImport, IsWindowImportRefusal, IsWindowTable, IsWindowTicksRefusal}
use Rattle.command_options.specs.declared.ImportForm.{ImportForm}
use Rattle.command_options.specs.declared.ImportForm.TheVariants as forms
use Rattle.command_faults.specs.declared.faults.Fault.{Fault}
use Rattle.command_faults.specs.declared.faults.Fault.TheVariants as fault
use Rattle.command_faults.specs.declared.faults.ImportOption.TheVariants as option
use Rattle.text_commands.specs.ImportLines.{notes_of}
use Rattle.text_commands.specs.TickLines.{tick_notes, ticks_text}
use Rattle.text_commands.specs.Upgrades.{IsUpgradeOf}
use Rattle.text_commands.specs.WindowLines.{window_notes}

-- a text that gives no time is a bad start
abbrev pub IsNoStart : Option (List ℕ) → Fault → Type 0
IsNoStart from (fault.Import option.From) = HasBadUntil from
IsNoStart from _ = ⊥

-- the text is that of the trace of the window, which is read back as that trace; `Told` holds of the notes
pub record IsTraceToldOf (o : Options) (Told : List ℕ → Type 0) (w : LogWindow) (out : List ℕ) : Type 0 where
  pub import : Import
  pub exact : IsWindowImport o w import
  pub written : IsUpgradeOf import.trace out
  pub told : Told (window_notes w.outside w.unsent ++ notes_of o import)

-- the text is the table of its steps
pub record IsTableToldOf (o : Options) (Told : List ℕ → Type 0) (w : LogWindow) (out : List ℕ) : Type 0 where
  pub import : Import
  pub exact : IsWindowTable o w import out
  pub told : Told (window_notes w.outside w.unsent ++ notes_of o import)

-- the text is the table of the lengths of a tick
pub record AreTicksToldOf (o : Options) (Told : List ℕ → Type 0) (w : LogWindow) (out : List ℕ) : Type 0 where
  pub kind : TimeKind
  pub rows : List TickRow
  pub exact : IsTickTable o w.text.items kind rows
  pub written : out ≡ ticks_text kind rows
  pub told : Told (window_notes w.outside w.unsent ++ tick_notes kind rows)

-- the text is what is printed of the window
abbrev pub IsToldOfWindow : ImportForm → Options → (List ℕ → Type 0) → LogWindow → List ℕ → Type 0
IsToldOfWindow forms.Trace o Told w out = IsTraceToldOf o Told w out
IsToldOfWindow forms.Table o Told w out = IsTableToldOf o Told w out
IsToldOfWindow forms.Ticks o Told w out = AreTicksToldOf o Told w out

-- the second text is what is printed of the window of the first from a time on
pub record IsWindowTold (form : ImportForm) (o : Options) (from : LogEnd) (Told : List ℕ → Type 0)
    (text out : List ℕ) : Type 0 where
  pub window : LogWindow
  pub is : IsWindow o.unit from o.until text window
  pub told : IsToldOfWindow form o Told window out

-- the window is refused for this reason
abbrev pub IsRefusalOfWindow : ImportForm → Options → LogWindow → LogError → Type 0
IsRefusalOfWindow forms.Trace o w reason = IsWindowImportRefusal o w reason
IsRefusalOfWindow forms.Table o w reason = IsWindowImportRefusal o w reason
IsRefusalOfWindow forms.Ticks o w reason = IsWindowTicksRefusal o w reason

-- the fault has its cause in the window: its first refusal; or out of memory
abbrev pub IsUntoldOfWindow : ImportForm → Options → LogWindow → Fault → Type 0
IsUntoldOfWindow form o w (fault.Log reason) = IsRefusalOfWindow form o w reason × (reason ≢ no_log.Memory)
IsUntoldOfWindow form o w fault.Memory = ⊤
IsUntoldOfWindow form o w _ = ⊥

-- the log has no such window, or its window is refused for this reason
abbrev pub IsRefusalFrom : ImportForm → Options → LogEnd → List ℕ → LogError → Type 0
IsRefusalFrom form o from text reason =
    HasNoWindow o.unit from o.until text reason
    ⊎ ((w : LogWindow) × IsWindow o.unit from o.until text w × IsRefusalOfWindow form o w reason)

-- the fault has its cause in the log: its first refusal; or out of memory
abbrev pub IsWindowless : ImportForm → Options → LogEnd → List ℕ → Fault → Type 0
IsWindowless form o from text (fault.Log reason) = IsRefusalFrom form o from text reason × (reason ≢ no_log.Memory)
IsWindowless form o from text fault.Memory = ⊤
IsWindowless form o from text _ = ⊥

-- a window isn't read: a read failed, or out of memory; or else the log, if it is known, has none
abbrev pub IsUnreadWindow : Options → LogEnd → Option (List ℕ) → Fault → Type 0
IsUnreadWindow o from known fault.Read = ⊤
IsUnreadWindow o from known fault.Memory = ⊤
IsUnreadWindow o from known (fault.Log reason) = IfSome known (λ text. HasNoWindow o.unit from o.until text reason)
    × (reason ≢ no_log.Memory)
IsUnreadWindow o from known _ = ⊥
