-- The refusals of a table in words (docs/FORMATS.md): without the program's name, and without a line feed.
use Rattle.std.specs.Prelude.{ℕ, List, ◌++◌, codes, decimal}
use Rattle.step_tables.specs.declared.refusals.TableError.{TableError}
use Rattle.step_tables.specs.declared.refusals.TableError.TheVariants as why

-- a refusal of the record of this number
abbrev pub in_record : ℕ → List ℕ → List ℕ
in_record number words = codes "record " ++ (decimal number ++ (codes ": " ++ words))

-- the words of each refusal
abbrev pub table_error_text : TableError → List ℕ
table_error_text why.TooLarge = codes "text too large"
table_error_text why.BadHeader = codes "bad header"
table_error_text (why.Unfit number) = in_record number (codes "does not fit the trace")
table_error_text (why.Missing number) = in_record number (codes "missing")
table_error_text why.Memory = codes "out of memory"
