-- The rows of a report, by their numbers (own).
use Rattle.std.specs.Prelude.{ℕ, List, Option, None, slice_get, suc, zero}
use Rattle.step_trace.specs.declared.rows.Row.{Row}

-- the row of this number, which counts from 1
abbrev pub row_at : List Row → ℕ → Option Row
row_at rows zero = None
row_at rows (suc k) = slice_get rows k
