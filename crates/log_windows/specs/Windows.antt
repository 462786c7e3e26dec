-- The window of a log: what is kept of its records, read one after the other.
use Rattle.std.specs.Prelude.{ℕ, ◌+◌, List, Option, Some, None, Result, Ok, Err, nat_le, if◌then◌else◌}
use Rattle.std.specs.Option.{ok_or}
use Rattle.trace_text.specs.Records.{◌>>=◌, after_records, field_of, records_of_text}
use Rattle.event_log.specs.declared.columns.Columns.{Columns}
use Rattle.event_log.specs.declared.refusals.LogError.{LogError}
use Rattle.event_log.specs.declared.refusals.LogError.TheVariants.{BadTime, TooManyEvents}
use Rattle.event_log.specs.declared.times.LogEnd.{LogEnd}
use Rattle.event_log.specs.declared.times.TimeUnit.{TimeUnit}
use Rattle.event_log.specs.Columns.{columns_of}
use Rattle.event_log.specs.LogRecords.{moment_as}
use Rattle.event_log.specs.Times.{settled}
use Rattle.log_windows.specs.declared.windows.Reading.{Reading}
use Rattle.log_windows.specs.declared.windows.TheConstants.{MAX_LOGGED}
use Rattle.log_windows.specs.Bounds.{kind_of, times_by}
use Rattle.log_windows.specs.KeptRows.{begun, rows_after, with_header}

-- the header
abbrev pub header_after : Reading → List (List ℕ) → Result Reading LogError
header_after r fields = columns_of fields >>= λ columns.
    Ok (record r { columns = Some columns; rows = with_header fields r.rows })

-- an event, which has a time
abbrev pub event_after : Columns → Reading → List (List ℕ) → Result Reading LogError
event_after columns r fields =
    if nat_le MAX_LOGGED r.count then Err TooManyEvents
    else (ok_or (moment_as (settled r.unit (kind_of r.times)) (field_of fields columns.time)) (BadTime (r.count + 2))
    >>= λ moment. times_by r.times r.from r.until moment.kind
    >>= λ times. rows_after columns times r.count moment.time fields r.rows
    >>= λ rows. Ok (record r { times = Some times; count = r.count + 1; rows = rows }))

abbrev pub next_by : Option Columns → Reading → List (List ℕ) → Result Reading LogError
next_by None r fields = header_after r fields
next_by (Some columns) r fields = event_after columns r fields

-- what one more record makes of what was read
abbrev pub next_row : Reading → List (List ℕ) → Result Reading LogError
next_row r fields = next_by r.columns r fields

-- nothing was read yet
abbrev pub nothing_read : Option TimeUnit → LogEnd → Option LogEnd → Reading
nothing_read unit from until =
    record { columns = None; unit = unit; from = from; until = until; times = None; count = 0; rows = begun }

-- what is kept of a log, or the first refusal
abbrev pub window_of : Option TimeUnit → LogEnd → Option LogEnd → List ℕ → Result Reading LogError
window_of unit from until text = after_records next_row (nothing_read unit from until) (records_of_text text)
