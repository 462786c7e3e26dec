-- The rows of a report, by their numbers.
use Rattle.std.proofs.Common.{ℕ, ◌≡◌, ◌<◌, ◌≤◌, List, length, Contains, Some, suc, zero, arith}
use Rattle.std.proofs.lemmas.Option.{none-some, slice_get_within}
use Rattle.step_trace.specs.declared.rows.Row.{Row}
use Rattle.step_trace.specs.ReportRows.{row_at}
use Rattle.step_trace.proofs.ListMembers.{Contains-slice_get}

-- a row with a number is one of the rows
pub Contains-row_at : (rows : List Row) (k : ℕ) (r : Row) → row_at rows k ≡ Some r → Contains rows r
Contains-row_at rows zero r e = absurd (none-some r e)
Contains-row_at rows (suc k) r e = Contains-slice_get rows k r e

-- its number is from 1 to how many there are
pub row_at_within : (rows : List Row) (k : ℕ) (r : Row) → row_at rows k ≡ Some r → (1 ≤ k) × (k ≤ length rows)
row_at_within rows zero r e = absurd (none-some r e)
row_at_within rows (suc k) r e = let l : k < length rows = slice_get_within rows k r e in (omega arith, omega arith)
