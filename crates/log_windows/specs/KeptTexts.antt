-- Received messages that a log sends.
use Rattle.std.specs.Prelude.{ℕ, ◌+◌, Bool, ◌==◌, ◌&&◌, List, [], ◌∷◌, ◌++◌, codes, fold, length, if◌then◌else◌}
use Rattle.std.specs.Str.{bytes_eq}
use Rattle.csv.specs.Writing.{row_text}
use Rattle.trace_text.specs.Records.{field_of}
use Rattle.trace_text.specs.RecordWriting.{our_writer}
use Rattle.event_log.specs.declared.columns.Columns.{Columns}
use Rattle.trace_text.specs.Names.{has_name, words_of}
use Rattle.event_log.specs.Names.{are_message_names}
use Rattle.log_windows.specs.KeptRows.{key_of}
use Rattle.log_windows.specs.Rows.{with_field}

-- a text, and how many received messages were left out of it
pub record Kept : Type 0 where
  pub text : List ℕ
  pub unsent : ℕ

-- words, and one more after a space
abbrev pub with_word : List ℕ → List ℕ → List ℕ
with_word text word = if length text == 0 then word else text ++ 32 ∷ word

-- one more message that a node receives, if one of these is sent to it
abbrev pub next_name : List (List ℕ) → List ℕ → Kept → List ℕ → Kept
next_name sent node kept name =
    if has_name sent (key_of name node) then record kept { text = with_word kept.text name }
    else record kept { unsent = kept.unsent + 1 }

-- those of the messages in a field that are sent to the node that received them
abbrev pub kept_names : List (List ℕ) → List ℕ → List ℕ → Kept
kept_names sent node field = fold (next_name sent node) (record { text = []; unsent = 0 }) (words_of field)

-- whether a record is a receive of messages: else it is refused later, and stays as it is
abbrev pub is_receive : Columns → List (List ℕ) → Bool
is_receive columns fields = bytes_eq (field_of fields columns.event) (codes "receive") && are_message_names
    (field_of fields columns.message)

-- a record, of which so many messages were left out
abbrev pub with_kept : List (List ℕ) → ℕ → Kept → Kept
with_kept fields unsent kept = record { text = kept.text ++ row_text our_writer fields; unsent = kept.unsent + unsent }

-- the record of a receive with the messages that are kept
abbrev pub with_names : Columns → List (List ℕ) → Kept → Kept → Kept
with_names columns fields names kept = with_kept (with_field fields columns.message names.text) names.unsent kept

-- the record of an event, by the keys of the messages that are sent
abbrev pub kept_event : Columns → List (List ℕ) → List (List ℕ) → Kept → Kept
kept_event columns sent fields kept =
    if is_receive columns fields then with_names columns fields
    (kept_names sent (field_of fields columns.node) (field_of fields columns.message)) kept
    else with_kept fields 0 kept
