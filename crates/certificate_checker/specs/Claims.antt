-- What is kept of claimed rows: themselves while they are in order, else what settles the verdict (own).
use Rattle.std.specs.Prelude.{ℕ, ◌+◌, ◌==◌, List, [], ◌∷◌, ◌++◌, length, nat_le}
use Rattle.std.specs.Prelude.{nat_lt, Bool, true, false, if◌then◌else◌}
use Rattle.std.specs.Option.{option_map_or}
use Rattle.step_trace.specs.declared.rows.Row.{Row}
use Rattle.certificate_checker.specs.declared.claims.ClaimedRows.{ClaimedRows}
use Rattle.certificate_checker.specs.declared.claims.ClaimedRows.TheVariants.{InOrder, Beyond, Refuted}
use Rattle.certificate_checker.specs.declared.verdicts.Reason.TheVariants.{FirstNotOne, NotRising}
use Rattle.step_trace.specs.ReportRows.{row_at}

-- how many rows were claimed
abbrev pub count_of : ClaimedRows → ℕ
count_of (InOrder rows) = length rows
count_of (Beyond first count gst) = count
count_of (Refuted why count) = count

-- the stabilization time of the last row; 0 if there is none
abbrev pub last_gst : List Row → ℕ
last_gst rows = option_map_or (λ r. r.gst) (row_at rows (length rows)) 0

-- whether a further row begins after the last of these; the first one begins at tick 1
abbrev pub risen : List Row → Row → Bool
risen rows row = if length rows == 0 then row.gst == 1 else nat_lt (last_gst rows) row.gst

-- what one more row makes of rows in order, which rise from tick 1 to the last tick at most
abbrev pub next_in_order : ℕ → List Row → Row → ClaimedRows
next_in_order last rows row =
    if risen rows row then (if nat_le row.gst last then InOrder (rows ++ row ∷ []) else Beyond (length rows + 1)
    (length rows + 1) row.gst)
    else Refuted (if length rows == 0 then FirstNotOne else NotRising (length rows + 1)) (length rows + 1)

-- What the row of this number makes of rows before it that rise. The first of them beyond the last tick has the
-- number `first`, and the last begins at `gst`.
abbrev pub next_beyond : ℕ → ℕ → ℕ → Row → ClaimedRows
next_beyond first number gst row = if nat_lt gst row.gst then Beyond first number row.gst else Refuted
    (NotRising number) number

-- what one more row makes of what is kept; of rows that are refuted only the count goes on
abbrev pub with_row : ℕ → ClaimedRows → Row → ClaimedRows
with_row last (InOrder rows) row = next_in_order last rows row
with_row last (Beyond first count gst) row = next_beyond first (count + 1) gst row
with_row last (Refuted why count) row = Refuted why (count + 1)

-- whether the rows themselves are kept
abbrev pub is_in_order : ClaimedRows → Bool
is_in_order (InOrder rows) = true
is_in_order (Beyond first count gst) = false
is_in_order (Refuted why count) = false

-- and more rows, one after the other
abbrev pub with_rows : ℕ → ClaimedRows → List Row → ClaimedRows
with_rows last rows [] = rows
with_rows last rows (row ∷ more) = with_rows last (with_row last rows row) more

-- what is kept of rows that are claimed of a trace with this last tick
abbrev pub claimed : ℕ → List Row → ClaimedRows
claimed last rows = with_rows last (InOrder []) rows
