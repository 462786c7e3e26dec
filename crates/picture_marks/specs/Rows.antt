-- The rows of a report, by their numbers from 1 on (own).
use Rattle.std.specs.Prelude.{ℕ, ◌-◌, ◌*◌, ◌/◌, ◌==◌, ◌&&◌, Bool, false, List}
use Rattle.std.specs.Prelude.{Option, Some, None, max}
use Rattle.std.specs.Option.{option_and_then}
use Rattle.step_trace.specs.declared.rows.Miss.{Miss}
use Rattle.step_trace.specs.declared.rows.Gap.{Gap}
use Rattle.step_trace.specs.declared.rows.Row.{Row}
use Rattle.step_trace.specs.ReportRows.{row_at}
use Rattle.picture_marks.specs.declared.report_rows.TheConstants.{COLUMNS}

-- the miss of a row
abbrev pub miss_at : List Row → ℕ → Option Miss
miss_at rows k = option_and_then (λ r. r.miss) (row_at rows k)

-- the gap of a row
abbrev pub gap_at : List Row → ℕ → Option Gap
gap_at rows k = option_and_then (λ r. r.gap) (row_at rows k)

-- whether both are there and are one miss
abbrev pub same_miss : Option Miss → Option Miss → Bool
same_miss (Some a) (Some b) = a.sent == b.sent && a.missed == b.missed
same_miss (Some a) None = false
same_miss None b = false

-- whether both are there, of one processor and with one end
abbrev pub share_end : Option Gap → Option Gap → Bool
share_end (Some a) (Some b) = a.proc == b.proc && a.to == b.to
share_end (Some a) None = false
share_end None b = false

-- the column in which tick g of so many begins, of so many columns
abbrev pub column_in : ℕ → ℕ → ℕ → ℕ
column_in columns last g = (g - 1) * columns / max 1 last

-- its column of pixels
abbrev pub column : ℕ → ℕ → ℕ
column last g = column_in COLUMNS last g

-- whether both are there and begin in one column
abbrev pub share_column : ℕ → Option Row → Option Row → Bool
share_column last (Some a) (Some b) = column last a.gst == column last b.gst
share_column last (Some a) None = false
share_column last None b = false
