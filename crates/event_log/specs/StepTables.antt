-- The table of the steps of a log's trace: a record for each step, with the record of the log that it is.
use Rattle.std.specs.Prelude.{ℕ, ◌≡◌, ◌+◌, ◌-◌, ◌*◌, ℤ, pos, List, [], ◌∷◌, ◌++◌, Option, Some, None, ◌==◌, fold}
use Rattle.std.specs.Prelude.{length, map, codes, decimal, if◌then◌else◌, nat_lt, slice_get, slice_index}
use Rattle.std.specs.Prelude.{slice_index_or}
use Rattle.std.proofs.Common.{◌+ℤ◌}
use Rattle.std.specs.Fmt.{signed_decimal}
use Rattle.std.specs.List.{flat_map, range_with_len}
use Rattle.std.specs.Option.{option_map_or}
use Rattle.csv.specs.Writing.{row_text}
use Rattle.timed_events.specs.declared.events.Event.{Event}
use Rattle.timed_events.specs.declared.events.EventAct.{EventAct}
use Rattle.timed_events.specs.declared.events.EventAct.TheVariants as act
use Rattle.timed_events.specs.Checks.{processor_at, time_at}
use Rattle.timed_events.specs.Times.{least_time}
use Rattle.trace_text.specs.Records.{field_of, records_of_text}
use Rattle.trace_text.specs.RecordWriting.{our_writer}
use Rattle.event_log.specs.declared.imports.Import.{Import}
use Rattle.event_log.specs.declared.options.Options.{Options}
use Rattle.event_log.specs.Imports.{IsImportOf}
use Rattle.event_log.specs.LogPlaces.{log_place}
use Rattle.event_log.specs.LogTraces.{ArePlacedBy}
use Rattle.event_log.specs.ToldNames.{message_place, node_name}

-- the names of the columns
abbrev pub table_header : List (List ℕ)
table_header = codes "step" ∷ codes "tick" ∷ codes "begins" ∷ codes "record" ∷ codes "time" ∷ codes "node"
    ∷ codes "event" ∷ codes "to" ∷ codes "message" ∷ []

-- when a tick begins, if tick 1 begins at a time and each tick is so long
abbrev pub begin_of : ℤ → ℕ → ℕ → ℤ
begin_of first width tick = first +ℤ pos ((tick - 1) * width)

-- what happened, as a log has it
abbrev pub event_word : EventAct → List ℕ
event_word (act.Send to) = codes "send"
event_word (act.Receive messages) = codes "receive"

abbrev pub word_at : List Event → ℕ → List ℕ
word_at events i = option_map_or (λ e. event_word e.act) (slice_get events i) []

-- the node that a send is for, and nothing in a receive
abbrev pub receiver_in : List (List ℕ) → EventAct → List ℕ
receiver_in nodes (act.Send to) = node_name nodes to
receiver_in nodes (act.Receive messages) = []

abbrev pub receiver_name_at : List (List ℕ) → List Event → ℕ → List ℕ
receiver_name_at nodes events i = option_map_or (λ e. receiver_in nodes e.act) (slice_get events i) []

-- what the records of a text have in the column of messages, the header first
abbrev pub message_fields : List ℕ → List (List ℕ)
message_fields text = map (λ fields. field_of fields (message_place text)) (records_of_text text)

-- what only a step of one of the log's events has, of which there are so many; a receive that was added behind them has
-- nothing
abbrev pub if_logged : ℕ → ℕ → List ℕ → List ℕ
if_logged logged i field = if nat_lt i logged then field else []

-- messages and those of one record more, with a space between them
abbrev pub with_field : List ℕ → List ℕ → List ℕ
with_field text field = if length field == 0 then text else if length text == 0 then field else text ++ 32 ∷ field

-- what the records of these events have as messages
abbrev pub joined_fields : List (List ℕ) → List ℕ → List ℕ
joined_fields messages part = fold (λ text p. with_field text (slice_index_or messages (p + 1) [])) [] part

-- what the record of an event has as messages, or the records of which it is made
abbrev pub field_at : List (List ℕ) → Option (List ℕ) → Option (List (List ℕ)) → ℕ → List ℕ
field_at messages left_at None i = slice_index_or messages (log_place left_at i + 1) []
field_at messages left_at (Some parts) i = joined_fields messages (slice_index_or parts i [])

-- Step k, counted from 0, which is the event at place i, in a tick. Its fields: its number and
-- tick; when the tick begins; the number of its record; the time of the event; the node; what it
-- did; the node that a send is for; and what its record has in the column of messages. The events
-- are at the places `left_at` of the log, or made of those at the places `parts`. Its records come
-- after that of the header, which is number 1. Tick 1 begins at the time `first`.
abbrev pub step_record : List (List ℕ) → List (List ℕ) → List Event → ℕ → Option (List ℕ) → Option (List (List ℕ)) → ℤ
    → ℕ → ℕ → ℕ → ℕ → List (List ℕ)
step_record messages nodes events logged left_at parts first width k tick i =
    decimal (k + 1) ∷ decimal tick ∷ signed_decimal (begin_of first width tick) ∷ if_logged logged i
    (decimal (log_place left_at i + 2)) ∷ if_logged logged i (signed_decimal (time_at events i))
    ∷ node_name nodes (processor_at events i) ∷ word_at events i ∷ receiver_name_at nodes events i
    ∷ if_logged logged i (field_at messages left_at parts i) ∷ []

-- the same by the ticks of the steps and the places of their events
abbrev pub record_of_step : List (List ℕ) → List (List ℕ) → List Event → ℕ → Option (List ℕ) → Option (List (List ℕ))
    → ℤ → ℕ → List ℕ → List ℕ → ℕ → List (List ℕ)
record_of_step messages nodes events logged left_at parts first width ticks places k =
    step_record messages nodes events logged left_at parts first width k (slice_index ticks k) (slice_index places k)

-- the header and the records of so many steps, as csv writes them; the messages are those of all records of the log
abbrev pub rows_text : List (List ℕ) → List (List ℕ) → List Event → ℕ → Option (List ℕ) → Option (List (List ℕ)) → ℤ → ℕ
    → List ℕ → List ℕ → ℕ → List ℕ
rows_text messages nodes events logged left_at parts first width ticks places count =
    row_text our_writer table_header
    ++ flat_map
    (λ k. row_text our_writer
    (record_of_step messages nodes events logged left_at parts first width ticks places k))
    (range_with_len 0 count)

-- the table of the steps of all events, of which so many are the log's
abbrev pub table_text : List ℕ → List (List ℕ) → List Event → ℕ → Option (List ℕ) → Option (List (List ℕ)) → ℤ → ℕ
    → List ℕ → List ℕ → List ℕ
table_text text nodes events logged left_at parts first width ticks places =
    rows_text (message_fields text) nodes events logged left_at parts first width ticks places (length places)

-- The import is that of the text by the options. The table has a record for each of its steps: that of its event, or of
-- the receive of nothing that was added.
pub record IsTableOf (o : Options) (text : List ℕ) (import : Import) (table : List ℕ) : Type 0 where
  pub is : IsImportOf o text import
  pub filled : List Event
  pub places : List ℕ
  pub placed : ArePlacedBy is.limit o.spread (length is.log.nodes) is.made.left is.clock filled places
  pub written : table ≡ table_text text import.nodes filled (length is.made.left) is.made.left_at is.made.parts
      (least_time is.made.left) is.clock.width import.trace.ticks places
