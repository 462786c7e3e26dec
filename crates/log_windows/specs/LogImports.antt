-- A log read as a trace. A record of it may send a message to several nodes.
use Rattle.std.specs.Prelude.{ℕ, ◌⊎◌, List, MatchBool, ⊤}
use Rattle.event_log.specs.declared.imports.Import.{Import}
use Rattle.event_log.specs.declared.options.Options.{Options}
use Rattle.event_log.specs.declared.refusals.LogError.{LogError}
use Rattle.event_log.specs.declared.tick_rows.TickRow.{TickRow}
use Rattle.event_log.specs.declared.times.TimeKind.{TimeKind}
use Rattle.event_log.specs.Imports.{IsImportOf, IsLogRefusal}
use Rattle.event_log.specs.Naming.{is_memory}
use Rattle.event_log.specs.StepTables.{IsTableOf}
use Rattle.event_log.specs.TickTables.{IsTickRefusal, IsTickTable}
use Rattle.log_windows.specs.declared.reading.LogWindow.{LogWindow}
use Rattle.log_windows.specs.Lists.{may_list}
use Rattle.log_windows.specs.LogWindows.{IsSpreadOf, IsUnspread}
use Rattle.log_windows.specs.WindowImports.{IsWindowImport, IsWindowImportRefusal, IsWindowTable, IsWindowTicksRefusal}

-- it holds of the log in which each send is to one node
abbrev pub OfSpread : (LogWindow → Type 0) → List ℕ → Type 0
OfSpread P text = (w : LogWindow) × IsSpreadOf text w × P w

-- that log isn't made, or is refused for this reason
abbrev pub IsSpreadRefusal : (LogWindow → Type 0) → List ℕ → LogError → Type 0
IsSpreadRefusal P text why =
    MatchBool (is_memory why) ⊤ (IsUnspread text why ⊎ OfSpread P text)

-- the import of a log
abbrev pub IsLogImport : Options → List ℕ → Import → Type 0
IsLogImport o text import = MatchBool (may_list text) (OfSpread (λ w. IsWindowImport o w import) text)
    (IsImportOf o text import)

-- the same with the table of its steps
abbrev pub IsLogTable : Options → List ℕ → Import → List ℕ → Type 0
IsLogTable o text import table = MatchBool (may_list text) (OfSpread (λ w. IsWindowTable o w import table) text)
    (IsTableOf o text import table)

-- the rows of the table of the lengths of a tick
abbrev pub AreLogTicks : Options → List ℕ → TimeKind → List TickRow → Type 0
AreLogTicks o text kind rows = MatchBool (may_list text) (OfSpread (λ w. IsTickTable o w.text.items kind rows) text)
    (IsTickTable o text kind rows)

-- why a log is refused
abbrev pub IsLogImportRefusal : Options → List ℕ → LogError → Type 0
IsLogImportRefusal o text why =
    MatchBool (may_list text) (IsSpreadRefusal (λ w. IsWindowImportRefusal o w why) text why) (IsLogRefusal o text why)

-- the same of the table of the lengths of a tick
abbrev pub IsLogTicksRefusal : Options → List ℕ → LogError → Type 0
IsLogTicksRefusal o text why = MatchBool (may_list text) (IsSpreadRefusal (λ w. IsWindowTicksRefusal o w why) text why)
    (IsTickRefusal o text why)
