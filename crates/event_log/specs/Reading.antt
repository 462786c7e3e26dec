-- The records of a log, read one after the other.
use Rattle.std.specs.Prelude.{ℕ, ◌+◌, List, Option, Some, None, Result, Ok, Err, length, nat_le, nat_lt, if◌then◌else◌}
use Rattle.std.specs.Borrow.{Bor}
use Rattle.trace_text.specs.Records.{◌>>=◌, after_records, records_of_text}
use Rattle.trace_text.specs.declared.byte_loops.TheConstants.{MAX_TEXT_BYTES}
use Rattle.event_log.specs.declared.columns.Column.TheVariants as column
use Rattle.event_log.specs.declared.columns.Columns.{Columns}
use Rattle.event_log.specs.declared.reading.Reading.{Reading}
use Rattle.event_log.specs.declared.reading.TheConstants.{MAX_EVENTS}
use Rattle.event_log.specs.declared.records.Rules.{Rules}
use Rattle.event_log.specs.declared.refusals.LogError.{LogError}
use Rattle.event_log.specs.declared.refusals.LogError.TheVariants.{NoColumn, NoEvents, TooFewNodes}
use Rattle.event_log.specs.declared.refusals.LogError.TheVariants.{TooLarge, TooManyEvents}
use Rattle.event_log.specs.declared.times.TimeKind.{TimeKind}
use Rattle.event_log.specs.declared.times.TimeUnit.{TimeUnit}
use Rattle.event_log.specs.Columns.{columns_of}
use Rattle.event_log.specs.LogRecords.{Said, said_of}
use Rattle.event_log.specs.Naming.{Named, after_said, begun}
use Rattle.event_log.specs.Times.{settled}

-- the names after the event at a place, unless those of an earlier one were refused
abbrev pub after_told : ℕ → Result Named LogError → Said → Result Named LogError
after_told place names s = names >>= λ n. after_said place n s

-- by what the next record is judged
abbrev pub rules_of : Columns → Reading → Rules
rules_of columns r = record { columns = columns; kind = settled r.unit r.kind; listed = r.listed }

-- one event more
abbrev pub with_event : Reading → Said → Reading
with_event r s = record r { kind = Some s.moment.kind; count = r.count + 1; names = after_told r.count r.names s }

-- an event, if there may be one more
abbrev pub next_event : Columns → Reading → List (List ℕ) → Result Reading LogError
next_event columns r fields =
    if nat_le MAX_EVENTS r.count then Err TooManyEvents
    else (said_of (rules_of columns r) (r.count + 2) fields >>= λ s. Ok (with_event r s))

-- the header, and then an event in each record
abbrev pub next_by : Option Columns → Reading → List (List ℕ) → Result Reading LogError
next_by None r fields = columns_of fields >>= λ columns. Ok (record r { columns = Some columns })
next_by (Some columns) r fields = next_event columns r fields

-- what one more record makes of what was read
abbrev pub next_reading : Reading → List (List ℕ) → Result Reading LogError
next_reading r fields = next_by r.columns r fields

-- nothing was read yet
abbrev pub nothing_read : Option TimeUnit → Option (Bor (List (List ℕ))) → List (List ℕ) → Reading
nothing_read unit listed nodes =
    record { columns = None; unit = unit; kind = None; listed = listed; count = 0; names = Ok (begun nodes) }

-- the kind of the times, and the names and events
abbrev pub enough_nodes : TimeKind → Named → Result (TimeKind × Named) LogError
enough_nodes kind n = if nat_lt (length n.nodes) 2 then Err TooFewNodes else Ok (kind, n)

-- the first event settles the kind of the times
abbrev pub named_by : Option TimeKind → Result Named LogError → Result (TimeKind × Named) LogError
named_by None names = Err NoEvents
named_by (Some kind) names = names >>= λ n. enough_nodes kind n

abbrev pub at_end_by : Option Columns → Reading → Result (TimeKind × Named) LogError
at_end_by None r = Err (NoColumn column.Time)
at_end_by (Some columns) r = named_by r.kind r.names

-- what the end of the text says
abbrev pub named_at_end : Reading → Result (TimeKind × Named) LogError
named_at_end r = at_end_by r.columns r

-- what a text says after what was read
abbrev pub named_from : Reading → List ℕ → Result (TimeKind × Named) LogError
named_from r text =
    if nat_le (length text) MAX_TEXT_BYTES then
    (after_records next_reading r (records_of_text text) >>= λ s. named_at_end s)
    else Err TooLarge

-- the events of a log with its nodes and messages, or the first refusal
abbrev pub named_of : Option TimeUnit → Option (Bor (List (List ℕ))) → List (List ℕ) → List ℕ
    → Result (TimeKind × Named) LogError
named_of unit listed nodes text = named_from (nothing_read unit listed nodes) text
