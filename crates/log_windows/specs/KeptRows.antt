-- What is kept of a log: its header, and the records in a window.
use Rattle.std.specs.Prelude.{ℕ, ℤ, ◌+◌, Bool, ◌==◌, false, List, [], ◌∷◌, ◌++◌, map, Result}
use Rattle.std.specs.Prelude.{Ok, Err, codes, is_some, length, nat_le, if◌then◌else◌}
use Rattle.std.specs.List.{slice_split}
use Rattle.std.specs.Str.{bytes_eq}
use Rattle.csv.specs.Writing.{row_text}
use Rattle.trace_text.specs.declared.byte_loops.TheConstants.{MAX_TEXT_BYTES}
use Rattle.trace_text.specs.Records.{after_records, field_of, number_of}
use Rattle.trace_text.specs.RecordWriting.{our_writer}
use Rattle.event_log.specs.declared.columns.Columns.{Columns}
use Rattle.event_log.specs.declared.refusals.LogError.{LogError}
use Rattle.event_log.specs.declared.refusals.LogError.TheVariants.{TooLarge}
use Rattle.event_log.specs.declared.times.TimeKind.{TimeKind}
use Rattle.event_log.specs.declared.times.TimeKind.TheVariants as kind
use Rattle.event_log.specs.Names.{with_name}
use Rattle.log_windows.specs.declared.bounds.Times.{Times}
use Rattle.log_windows.specs.Bounds.{is_within}
use Rattle.log_windows.specs.Rows.{with_field}

-- the text of the records; the places of their events in the log; the keys of the messages that they send; and how many
-- events are outside the window
pub record Rows : Type 0 where
  pub text : List ℕ
  pub places : List ℕ
  pub sent : List (List ℕ)
  pub outside : ℕ

-- no records, after a line feed, so that no byte order mark begins the text
abbrev pub begun : Rows
begun = record { text = 10 ∷ []; places = []; sent = []; outside = 0 }

-- whether a time is a whole number among decimal seconds
abbrev pub needs_point : TimeKind → List ℕ → Bool
needs_point kind.Decimal time = is_some (number_of time)
needs_point k time = false

-- a record whose time has a point
abbrev pub pointed : Columns → List (List ℕ) → List (List ℕ)
pointed columns fields = with_field fields columns.time (field_of fields columns.time ++ codes ".0")

-- a record whose time is of this kind by itself
abbrev pub told_row : Columns → TimeKind → List (List ℕ) → List (List ℕ)
told_row columns k fields =
    if needs_point k (field_of fields columns.time) then pointed columns fields else fields

-- the nodes that a field lists, with semicolons between them
abbrev pub nodes_in : List ℕ → List (List ℕ)
nodes_in field = slice_split (λ byte. byte == 59) field

-- a record for each node that a message is sent to; any other record is one
abbrev pub rows_of : Columns → List (List ℕ) → List (List (List ℕ))
rows_of columns fields =
    if bytes_eq (field_of fields columns.event) (codes "send") then map (with_field fields columns.to)
    (nodes_in (field_of fields columns.to)) else fields ∷ []

-- By what a message is known: its name, and the node that it is for. A name of messages has no space, so no two
-- messages have one key.
abbrev pub key_of : List ℕ → List ℕ → List ℕ
key_of name node = name ++ 32 ∷ node

-- the keys of messages that are sent, after a record
abbrev pub keys_after : Columns → List (List ℕ) → List (List ℕ) → List (List ℕ)
keys_after columns fields sent =
    if bytes_eq (field_of fields columns.event) (codes "send") then with_name sent
    (key_of (field_of fields columns.message) (field_of fields columns.to)) else sent

abbrev pub with_header : List (List ℕ) → Rows → Rows
with_header fields rows = record rows { text = rows.text ++ row_text our_writer fields }

-- one record more, of the event at a place of the log
abbrev pub with_row : Columns → ℕ → List (List ℕ) → Rows → Rows
with_row columns place fields rows = record {
  text = rows.text ++ row_text our_writer fields;
  places = rows.places ++ place ∷ [];
  sent = keys_after columns fields rows.sent;
  outside = rows.outside;
}

abbrev pub unless_large : Rows → Result Rows LogError
unless_large rows = if nat_le (length rows.text) MAX_TEXT_BYTES then Ok rows else Err TooLarge

-- the same, unless the text is too large
abbrev pub next_part : Columns → ℕ → Rows → List (List ℕ) → Result Rows LogError
next_part columns place rows fields = unless_large (with_row columns place fields rows)

-- the records of an event
abbrev pub with_event : Columns → ℕ → List (List ℕ) → Rows → Result Rows LogError
with_event columns place fields rows = after_records (next_part columns place) rows (rows_of columns fields)

-- the same if its time is in the window
abbrev pub rows_after : Columns → Times → ℕ → ℤ → List (List ℕ) → Rows → Result Rows LogError
rows_after columns times place time fields rows =
    if is_within times.bounds time then with_event columns place (told_row columns times.kind fields) rows
    else Ok (record rows { outside = rows.outside + 1 })
