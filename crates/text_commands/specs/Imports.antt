-- What the program makes of a log in an import.
use Rattle.std.specs.Prelude.{ℕ, ◌≡◌, ◌≢◌, ◌⊎◌, List, Some, IsSome, ⊤, option_map, string_bytes}
use Rattle.trace_text.specs.declared.counting.Counting.{Counting}
use Rattle.event_log.specs.declared.imports.Import.{Import}
use Rattle.event_log.specs.declared.options.OptionError.TheVariants as no_options
use Rattle.event_log.specs.declared.options.Options.{Options}
use Rattle.event_log.specs.declared.refusals.LogError.{LogError}
use Rattle.event_log.specs.declared.refusals.LogError.TheVariants as no_log
use Rattle.event_log.specs.declared.tick_rows.TickRow.{TickRow}
use Rattle.event_log.specs.declared.times.TimeKind.{TimeKind}
use Rattle.event_log.specs.Options.{IsOptionFault, ToldOptions}
use Rattle.log_windows.specs.LogImports.{AreLogTicks, IsLogImport, IsLogImportRefusal, IsLogTable, IsLogTicksRefusal}
use Rattle.command_options.specs.declared.ImportForm.{ImportForm}
use Rattle.command_options.specs.declared.ImportForm.TheVariants as forms
use Rattle.command_options.specs.declared.ImportOptions.{ImportOptions}
use Rattle.command_faults.specs.declared.faults.Fault.{Fault}
use Rattle.command_faults.specs.declared.faults.Fault.TheVariants as fault
use Rattle.command_faults.specs.declared.faults.ImportOption.{ImportOption}
use Rattle.command_faults.specs.declared.faults.ImportOption.TheVariants as option
use Rattle.text_commands.specs.ImportLines.{notes_of}
use Rattle.text_commands.specs.TickLines.{tick_notes, ticks_text}
use Rattle.text_commands.specs.Upgrades.{IsUpgradeOf}

-- the fault that what an option says, which is this text, is no length of time; or out of memory
abbrev pub IsNoLength : ImportOption → List ℕ → Fault → Type 0
IsNoLength o text (fault.Length named given) = (named ≡ o) × (string_bytes given ≡ text)
IsNoLength o text fault.Memory = ⊤
IsNoLength o text _ = ⊥

-- how a log is read, as the command line says it
abbrev pub options_in : ImportOptions → ToldOptions
options_in given = record {
  nodes = option_map string_bytes given.nodes;
  unit = option_map string_bytes given.unit;
  tick = option_map string_bytes given.tick;
  until = option_map string_bytes given.until;
  idle = option_map string_bytes given.idle;
  spread = given.spread;
  align = given.align;
  drop_lost = given.drop_lost;
  merge = given.merge;
}

-- why there are no options of a log: the first text that is bad; or out of memory
abbrev pub IsImportOptionFault : ToldOptions → Fault → Type 0
IsImportOptionFault told (fault.Import option.Nodes) = IsOptionFault told no_options.Nodes
IsImportOptionFault told (fault.Import option.Unit) = IsOptionFault told no_options.Unit
IsImportOptionFault told (fault.Import option.Until) = IsOptionFault told no_options.Until
IsImportOptionFault told (fault.Length option.Tick given) =
    IsOptionFault told no_options.Tick × (told.tick ≡ Some (string_bytes given))
IsImportOptionFault told (fault.Length option.Idle given) =
    IsOptionFault told no_options.Idle × (told.idle ≡ Some (string_bytes given))
IsImportOptionFault told fault.Memory = ⊤
IsImportOptionFault told _ = ⊥

-- something has to be kept for the options: nodes, if they are listed; or the first bad text, if it gives no length
abbrev pub NeedsOptionMemory : ToldOptions → Type 0
NeedsOptionMemory told = IsSome told.nodes ⊎ (IsOptionFault told no_options.Tick ⊎ IsOptionFault told no_options.Idle)

-- The text is what is printed of an import of a log by these options. That is the text of its trace in version 2, which
-- is read back as that trace; or the table of its steps.
abbrev pub IsImportText : ImportForm → Options → List ℕ → Import → List ℕ → Type 0
IsImportText forms.Trace o text import out = IsUpgradeOf import.trace out
IsImportText forms.Table o text import out = IsLogTable o text import out
IsImportText forms.Ticks o text import out = ⊥

-- The first text is a log that is read as a trace by these options, and the second is what is printed of it. `Told`
-- holds of the notes on it.
pub record IsTraceTold (form : ImportForm) (o : Options) (Told : List ℕ → Type 0) (text out : List ℕ) : Type 0 where
  pub import : Import
  pub exact : IsLogImport o text import
  pub written : IsImportText form o text import out
  pub told : Told (notes_of o import)

-- The first text is a log that is read by these options, and the second is the table of the lengths of a tick. `Told`
-- holds of the note on it.
pub record AreTicksTold (o : Options) (Told : List ℕ → Type 0) (text out : List ℕ) : Type 0 where
  pub kind : TimeKind
  pub rows : List TickRow
  pub exact : AreLogTicks o text kind rows
  pub written : out ≡ ticks_text kind rows
  pub told : Told (tick_notes kind rows)

-- the second text is what is printed of the first
abbrev pub IsImportTold : ImportForm → Options → (List ℕ → Type 0) → List ℕ → List ℕ → Type 0
IsImportTold forms.Trace o Told text out = IsTraceTold forms.Trace o Told text out
IsImportTold forms.Table o Told text out = IsTraceTold forms.Table o Told text out
IsImportTold forms.Ticks o Told text out = AreTicksTold o Told text out

-- the log is refused for this reason, with ticks of the options' length, or in the table of lengths with some length
abbrev pub IsRefusalFor : ImportForm → Options → List ℕ → LogError → Type 0
IsRefusalFor forms.Trace o text reason = IsLogImportRefusal o text reason
IsRefusalFor forms.Table o text reason = IsLogImportRefusal o text reason
IsRefusalFor forms.Ticks o text reason = IsLogTicksRefusal o text reason

-- The fault has its cause in the log: its first refusal; or it is out of memory, which is a fault of its own.
abbrev pub IsUnimported : ImportForm → Options → List ℕ → Fault → Type 0
IsUnimported form o text (fault.Log reason) = IsRefusalFor form o text reason × (reason ≢ no_log.Memory)
IsUnimported form o text fault.Memory = ⊤
IsUnimported form o text _ = ⊥

-- the fault of a command that reads logs, and no trace text: a refusal of a log
abbrev pub IsToldOfLogs : Fault → Type 0
IsToldOfLogs (fault.Log reason) = reason ≢ no_log.Memory
IsToldOfLogs _ = ⊥

-- nothing was reported, except before a failed write
abbrev pub IsQuietFault : {T : Type 0} → Counting T → Counting T → Fault → Type 0
IsQuietFault old new (fault.Write n) = ⊤
IsQuietFault old new _ = new ≡ old
