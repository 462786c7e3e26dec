-- A window of a log read as a trace.
use Rattle.std.specs.Prelude.{ℕ, ◌≡◌, List, Ok}
use Rattle.event_log.specs.declared.imports.Import.{Import}
use Rattle.event_log.specs.declared.options.Options.{Options}
use Rattle.event_log.specs.declared.refusals.LogError.{LogError}
use Rattle.event_log.specs.Imports.{IsImportOf, IsLogRefusal}
use Rattle.event_log.specs.StepTables.{IsTableOf}
use Rattle.event_log.specs.TickTables.{IsTickRefusal}
use Rattle.log_windows.specs.declared.reading.LogWindow.{LogWindow}
use Rattle.log_windows.specs.Numbers.{import_in, refusal_in}
use Rattle.log_windows.specs.NumberedRows.{table_in}

-- the import is that of the window's text, with the records of the whole log
pub record IsWindowImport (o : Options) (w : LogWindow) (import : Import) : Type 0 where
  pub own : Import
  pub exact : IsImportOf o w.text.items own
  pub is : import ≡ import_in w.places.items own

-- the same with the table of its steps
pub record IsWindowTable (o : Options) (w : LogWindow) (import : Import) (table : List ℕ) : Type 0 where
  pub own : Import
  pub own_table : List ℕ
  pub exact : IsTableOf o w.text.items own own_table
  pub is : import ≡ import_in w.places.items own
  pub table_is : table_in w.places.items own_table ≡ Ok table

-- the refusal is that of the window's text, with the numbers of the whole log
pub record IsWindowImportRefusal (o : Options) (w : LogWindow) (why : LogError) : Type 0 where
  pub own : LogError
  pub exact : IsLogRefusal o w.text.items own
  pub is : why ≡ refusal_in w.places.items own

-- the same of the table of the lengths of a tick
pub record IsWindowTicksRefusal (o : Options) (w : LogWindow) (why : LogError) : Type 0 where
  pub own : LogError
  pub exact : IsTickRefusal o w.text.items own
  pub is : why ≡ refusal_in w.places.items own
