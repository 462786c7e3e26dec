-- What is kept of a log, said at once: of its header and all its events, in place of one record after the other.
use Rattle.std.specs.Prelude.{ℕ, ◌≡◌, ◌+◌, ◌&&◌, Bool, false, not, All, IsSome, List, [], ◌∷◌, ◌++◌, Option, Some}
use Rattle.std.specs.Prelude.{None, Ok, codes, filter, flat_map, length, map, option_map, sum_by, if◌then◌else◌}
use Rattle.std.specs.List.{join_with_byte, list_any}
use Rattle.std.specs.Option.{option_map_or}
use Rattle.std.specs.Str.{bytes_eq}
use Rattle.csv.specs.Writing.{row_text}
use Rattle.trace_text.specs.Records.{field_of, records_of_text}
use Rattle.trace_text.specs.RecordWriting.{our_writer}
use Rattle.event_log.specs.declared.columns.Columns.{Columns}
use Rattle.event_log.specs.declared.times.LogEnd.{LogEnd}
use Rattle.event_log.specs.declared.times.TimeKind.{TimeKind}
use Rattle.event_log.specs.declared.times.TimeUnit.{TimeUnit}
use Rattle.event_log.specs.Columns.{columns_of}
use Rattle.event_log.specs.LogRecords.{moment_as}
use Rattle.trace_text.specs.Names.{has_name, words_of}
use Rattle.event_log.specs.Times.{settled, time_as}
use Rattle.log_windows.specs.declared.bounds.Times.{Times}
use Rattle.log_windows.specs.declared.reading.LogWindow.{LogWindow}
use Rattle.log_windows.specs.Bounds.{bounds_in, is_within}
use Rattle.log_windows.specs.KeptRows.{Rows, key_of, rows_of, told_row}
use Rattle.log_windows.specs.KeptTexts.{Kept, is_receive}
use Rattle.log_windows.specs.Rows.{with_field}

-- a record of a log, and the place of its event among the events, from 0
pub record Row : Type 0 where
  pub place : ℕ
  pub fields : List (List ℕ)

-- events one after the other, from a place on
abbrev pub placed : ℕ → List (List (List ℕ)) → List Row
placed place [] = []
placed place (fields ∷ more) = record { place = place; fields = fields } ∷ placed (place + 1) more

-- records of the event at a place
abbrev pub at_place : ℕ → List (List (List ℕ)) → List Row
at_place place records = map (λ fields. record { place = place; fields = fields }) records

-- whether a record sends the message that is known by a key
abbrev pub sends : Columns → List ℕ → Row → Bool
sends columns key row =
    bytes_eq (field_of row.fields columns.event) (codes "send") && bytes_eq key
    (key_of (field_of row.fields columns.message) (field_of row.fields columns.to))

-- these rows are kept: after a line feed, the header and then each row, as they are read back. The places are those of
-- the rows' events, and the keys those of the messages that the rows send
pub record AreKept (columns : Columns) (header : List (List ℕ)) (rows : List Row) (kept : Rows) : Type 0 where
  pub text : kept.text ≡ 10 ∷ (row_text our_writer header ++ flat_map (λ row. row_text our_writer row.fields) rows)
  pub read : records_of_text kept.text ≡ header ∷ map (λ row. row.fields) rows
  pub places : kept.places ≡ map (λ row. row.place) rows
  pub sent : (key : List ℕ) → has_name kept.sent key ≡ list_any (sends columns key) rows

-- nothing is kept but a line feed
pub record IsBare (kept : Rows) : Type 0 where
  pub text : kept.text ≡ 10 ∷ []
  pub places : kept.places ≡ []
  pub sent : kept.sent ≡ []
  pub outside : kept.outside ≡ 0

-- whether an event has a time of the kind of the times, and this is in the window
abbrev pub is_in : Columns → Times → Row → Bool
is_in columns times event = option_map_or (is_within times.bounds)
    (time_as times.kind (field_of event.fields columns.time)) false

-- the events in a window
abbrev pub events_in : Columns → Times → List (List (List ℕ)) → List Row
events_in columns times events = filter (is_in columns times) (placed 0 events)

-- the rows of an event in a window: one for each node that it sends to, with a time that is of its kind by itself
abbrev pub rows_in : Columns → TimeKind → Row → List Row
rows_in columns k event = at_place event.place (rows_of columns (told_row columns k event.fields))

-- The first event gives the kind of the times, and each event has a time of this kind. The window
-- by such times keeps the rows of exactly the events in it, and counts the others
pub record IsCut (unit : Option TimeUnit) (from : LogEnd) (until : Option LogEnd) (columns : Columns)
    (header first : List (List ℕ)) (events : List (List (List ℕ))) (kept : Rows) : Type 0 where
  pub times : Times
  pub kind : option_map (λ moment. moment.kind) (moment_as (settled unit None) (field_of first columns.time))
      ≡ Some times.kind
  pub timed : All (λ fields. IsSome (time_as times.kind (field_of fields columns.time))) events
  pub bounds : bounds_in times.kind from until ≡ Ok times.bounds
  pub rows : AreKept columns header (flat_map (rows_in columns times.kind) (events_in columns times events)) kept
  pub outside : kept.outside + length (events_in columns times events) ≡ length events

-- with no event, the header alone
abbrev pub IsCutBy : Option TimeUnit → LogEnd → Option LogEnd → Columns → List (List ℕ) → List (List (List ℕ))
    → Rows → Type 0
IsCutBy unit from until columns header [] kept = AreKept columns header [] kept × (kept.outside ≡ 0)
IsCutBy unit from until columns header (first ∷ more) kept =
    IsCut unit from until columns header first (first ∷ more) kept

-- what is kept of a log for a window, by all its records
abbrev pub IsCutOf : Option TimeUnit → LogEnd → Option LogEnd → List (List (List ℕ)) → Rows → Type 0
IsCutOf unit from until [] kept = IsBare kept
IsCutOf unit from until (header ∷ events) kept =
    (columns : Columns) × (columns_of header ≡ Ok columns) × IsCutBy unit from until columns header events kept

-- the rows of any event: one for each node that it sends to
abbrev pub rows_all : Columns → Row → List Row
rows_all columns event = at_place event.place (rows_of columns event.fields)

-- the log in which each send is to one node, by all records of a log
abbrev pub IsListOf : List (List (List ℕ)) → Rows → Type 0
IsListOf [] kept = IsBare kept
IsListOf (header ∷ events) kept =
    (columns : Columns) × (columns_of header ≡ Ok columns)
    × AreKept columns header (flat_map (rows_all columns) (placed 0 events)) kept × (kept.outside ≡ 0)

-- whether a message is sent to a node, by the keys of those that are sent
abbrev pub is_sent : List (List ℕ) → List ℕ → List ℕ → Bool
is_sent sent node name = has_name sent (key_of name node)

-- the messages in a field that are sent to the node that receives them, and how many aren't
abbrev pub names_sent : List (List ℕ) → List ℕ → List ℕ → List (List ℕ)
names_sent sent node field = filter (is_sent sent node) (words_of field)

abbrev pub count_unsent : List (List ℕ) → List ℕ → List ℕ → ℕ
count_unsent sent node field = length (filter (λ name. not (is_sent sent node name)) (words_of field))

-- a record without the messages that it receives and nobody sends to its node, and how many these are
abbrev pub sent_row : Columns → List (List ℕ) → List (List ℕ) → List (List ℕ)
sent_row columns sent fields =
    if is_receive columns fields
    then with_field fields columns.message
    (join_with_byte 32 (names_sent sent (field_of fields columns.node) (field_of fields columns.message)))
    else fields

abbrev pub unsent_in : Columns → List (List ℕ) → List (List ℕ) → ℕ
unsent_in columns sent fields =
    if is_receive columns fields then count_unsent sent (field_of fields columns.node)
    (field_of fields columns.message) else 0

-- a text without the received messages that nobody sends: after a line feed, the header and each event so, as they are
-- read back
pub record IsSentBy (columns : Columns) (sent : List (List ℕ)) (header : List (List ℕ)) (events : List (List (List ℕ)))
    (kept : Kept) : Type 0 where
  pub text : kept.text ≡ 10
      ∷ (row_text our_writer header ++ flat_map (λ fields. row_text our_writer (sent_row columns sent fields)) events)
  pub read : records_of_text kept.text ≡ header ∷ map (sent_row columns sent) events
  pub unsent : kept.unsent ≡ sum_by (unsent_in columns sent) events

abbrev pub IsSentOf : List (List ℕ) → List (List (List ℕ)) → Kept → Type 0
IsSentOf sent [] kept = (kept.text ≡ 10 ∷ []) × (kept.unsent ≡ 0)
IsSentOf sent (header ∷ events) kept = (columns : Columns) × (columns_of header ≡ Ok columns)
    × IsSentBy columns sent header events kept

-- the window that is handed out: what is kept of the log, whose receives have only messages that it sends
pub record IsWindowAtOnce (unit : Option TimeUnit) (from : LogEnd) (until : Option LogEnd)
    (records : List (List (List ℕ))) (w : LogWindow) : Type 0 where
  pub kept : Rows
  pub cut : IsCutOf unit from until records kept
  pub sent : IsSentOf kept.sent (records_of_text kept.text) (record { text = w.text.items; unsent = w.unsent })
  pub places : w.places.items ≡ kept.places
  pub outside : w.outside ≡ kept.outside
