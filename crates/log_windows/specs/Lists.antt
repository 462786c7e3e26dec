-- A log whose sends are each to one node.
use Rattle.std.specs.Prelude.{ℕ, ◌+◌, Bool, ◌==◌, List, Option, Some, None, Result, Ok, Err, nat_le, if◌then◌else◌}
use Rattle.std.specs.List.{list_any}
use Rattle.trace_text.specs.Records.{◌>>=◌, after_records, records_of_text}
use Rattle.event_log.specs.declared.columns.Columns.{Columns}
use Rattle.event_log.specs.declared.refusals.LogError.{LogError}
use Rattle.event_log.specs.declared.refusals.LogError.TheVariants.{TooManyEvents}
use Rattle.event_log.specs.Columns.{columns_of}
use Rattle.log_windows.specs.declared.lists.Spreading.{Spreading}
use Rattle.log_windows.specs.declared.windows.TheConstants.{MAX_LOGGED}
use Rattle.log_windows.specs.KeptRows.{Rows, begun, with_event, with_header}

-- whether a text may list nodes: it has a semicolon
abbrev pub may_list : List ℕ → Bool
may_list text = list_any (λ byte. byte == 59) text

-- an event
abbrev pub spread_event : Columns → Spreading → List (List ℕ) → Result Spreading LogError
spread_event columns s fields =
    if nat_le MAX_LOGGED s.count then Err TooManyEvents
    else (with_event columns s.count fields s.rows >>= λ rows. Ok (record s { count = s.count + 1; rows = rows }))

-- the header
abbrev pub spread_header : Spreading → List (List ℕ) → Result Spreading LogError
spread_header s fields = columns_of fields >>= λ columns.
    Ok (record s { columns = Some columns; rows = with_header fields s.rows })

-- the header, and then an event in each record
abbrev pub spread_by : Option Columns → Spreading → List (List ℕ) → Result Spreading LogError
spread_by None s fields = spread_header s fields
spread_by (Some columns) s fields = spread_event columns s fields

-- what one more record makes of what was gone through
abbrev pub next_spread : Spreading → List (List ℕ) → Result Spreading LogError
next_spread s fields = spread_by s.columns s fields

abbrev pub nothing_spread : Spreading
nothing_spread = record { columns = None; count = 0; rows = begun }

-- the log in which each send is to one node, or the first refusal
abbrev pub spread_of : List ℕ → Result Rows LogError
spread_of text = after_records next_spread nothing_spread (records_of_text text) >>= λ s. Ok s.rows
