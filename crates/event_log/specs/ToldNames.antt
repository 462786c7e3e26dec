-- The names that a refusal of a log reports: of messages, as their records have them, and of nodes.
use Rattle.std.specs.Prelude.{ℕ, ◌+◌, ◌-◌, List, [], slice_index_or, unwrap_or}
use Rattle.trace_text.specs.Records.{records_of_text, field_of}
use Rattle.event_log.specs.declared.columns.Column.TheVariants as column
use Rattle.event_log.specs.Columns.{place_in}
use Rattle.trace_text.specs.Names.{words_of}

-- a record of a text, from 0 on, which is the header
abbrev pub record_at : List ℕ → ℕ → List (List ℕ)
record_at text i = slice_index_or (records_of_text text) i []

-- the place of the column of messages
abbrev pub message_place : List ℕ → ℕ
message_place text = unwrap_or (place_in (record_at text 0) column.Message) 0

-- the name of message k of the event at place i, as its record has it
abbrev pub message_name : List ℕ → ℕ → ℕ → List ℕ
message_name text i k = slice_index_or (words_of (field_of (record_at text (i + 1)) (message_place text))) k []

-- the name of a node, by its number
abbrev pub node_name : List (List ℕ) → ℕ → List ℕ
node_name nodes p = slice_index_or nodes (p - 1) []
