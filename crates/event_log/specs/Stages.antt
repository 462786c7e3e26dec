-- The events of a log by stages: a stage begins if the one before it has refused nothing.
use Rattle.std.specs.Prelude.{ℕ, ◌+◌, List, [], ◌∷◌, Option, Some, None, Result, Ok, Err, length, nat_le, if◌then◌else◌}
use Rattle.std.specs.Borrow.{Bor}
use Rattle.trace_text.specs.Records.{◌>>=◌, records_of_text}
use Rattle.trace_text.specs.declared.byte_loops.TheConstants.{MAX_TEXT_BYTES}
use Rattle.event_log.specs.declared.columns.Column.TheVariants as column
use Rattle.event_log.specs.declared.columns.Columns.{Columns}
use Rattle.event_log.specs.declared.reading.TheConstants.{MAX_EVENTS}
use Rattle.event_log.specs.declared.records.Rules.{Rules}
use Rattle.event_log.specs.declared.refusals.LogError.{LogError}
use Rattle.event_log.specs.declared.refusals.LogError.TheVariants.{NoColumn, NoEvents, TooLarge, TooManyEvents}
use Rattle.event_log.specs.declared.times.TimeKind.{TimeKind}
use Rattle.event_log.specs.declared.times.TimeUnit.{TimeUnit}
use Rattle.event_log.specs.Columns.{columns_of}
use Rattle.event_log.specs.LogRecords.{Said, said_of}
use Rattle.event_log.specs.Logs.{SeenLog, resolved_log}
use Rattle.event_log.specs.Naming.{Named, after_said, begun}
use Rattle.event_log.specs.Reading.{enough_nodes}
use Rattle.event_log.specs.Times.{settled}

-- by what a record is judged
abbrev pub rules : Columns → Option TimeUnit → Option TimeKind → Option (Bor (List (List ℕ))) → Rules
rules columns unit kind listed = record { columns = columns; kind = settled unit kind; listed = listed }

-- what one more event makes of what those after it say
abbrev pub with_said : Said → Option TimeKind × List Said → Result (Option TimeKind × List Said) LogError
with_said s r = Ok (r.0, s ∷ r.1)

-- stage records: what the records from a place on say, and the kind of the times
unfoldable pub says_of : Columns → Option TimeUnit → Option (Bor (List (List ℕ))) → Option TimeKind → ℕ
    → List (List (List ℕ)) → Result (Option TimeKind × List Said) LogError
says_of columns unit listed kind place [] = Ok (kind, [])
says_of columns unit listed kind place (fields ∷ more) =
    if nat_le MAX_EVENTS place then Err TooManyEvents
    else (said_of (rules columns unit kind listed) (place + 2) fields >>= λ s.
    says_of columns unit listed (Some s.moment.kind) (place + 1) more >>= λ r. with_said s r)

-- stage names: the names of the events from a place on
unfoldable pub named_after : ℕ → Named → List Said → Result Named LogError
named_after place n [] = Ok n
named_after place n (s ∷ more) = after_said place n s >>= λ m. named_after (place + 1) m more

-- at least one event, and then the names
abbrev pub names_stage : List (List ℕ) → Option TimeKind × List Said → Result (TimeKind × Named) LogError
names_stage nodes (None, says) = Err NoEvents
names_stage nodes (Some kind, says) = named_after 0 (begun nodes) says >>= λ n. enough_nodes kind n

-- stage header, and those after it
abbrev pub header_stage : Option TimeUnit → Option (Bor (List (List ℕ))) → List (List ℕ) → List (List (List ℕ))
    → Result (TimeKind × Named) LogError
header_stage unit listed nodes [] = Err (NoColumn column.Time)
header_stage unit listed nodes (header ∷ more) = columns_of header >>= λ columns.
    says_of columns unit listed None 0 more >>= λ r. names_stage nodes r

-- stage text, and those after it: the events of a log
abbrev pub staged_log : Option TimeUnit → Option (Bor (List (List ℕ))) → List (List ℕ) → List ℕ
    → Result SeenLog LogError
staged_log unit listed nodes text =
    if nat_le (length text) MAX_TEXT_BYTES
    then (header_stage unit listed nodes (records_of_text text) >>= λ r. Ok (resolved_log r.0 r.1))
    else Err TooLarge
