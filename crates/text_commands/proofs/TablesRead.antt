-- The import of a log, by its table of steps.
use Rattle.std.proofs.Common.{ℕ, List, Bool, true, false}
use Rattle.std.specs.Prelude.{MatchBool}
use Rattle.event_log.specs.declared.imports.Import.{Import}
use Rattle.event_log.specs.declared.options.Options.{Options}
use Rattle.event_log.specs.Imports.{IsImportOf}
use Rattle.event_log.specs.StepTables.{IsTableOf}
use Rattle.log_windows.specs.Lists.{may_list}
use Rattle.log_windows.specs.LogImports.{IsLogImport, IsLogTable, OfSpread}
use Rattle.log_windows.specs.WindowImports.{IsWindowImport, IsWindowTable}

imported : (o : Options) (text : List ℕ) (import : Import) (table : List ℕ) (listed : Bool)
    → MatchBool listed (OfSpread (λ w. IsWindowTable o w import table) text) (IsTableOf o text import table)
    → MatchBool listed (OfSpread (λ w. IsWindowImport o w import) text) (IsImportOf o text import)
imported o text import table true h = (h.0, h.1, record { own = h.2.own; exact = h.2.exact.is; is = h.2.is })
imported o text import table false h = h.is

-- what has such a table is the import
pub table-imports : (o : Options) (text : List ℕ) (import : Import) (table : List ℕ)
    → IsLogTable o text import table → IsLogImport o text import
table-imports o text import table h = imported o text import table (may_list text) h
