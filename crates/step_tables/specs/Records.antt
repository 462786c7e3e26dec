-- The records of a table of a trace, and the first that doesn't fit.
use Rattle.std.specs.Prelude.{ℕ, ◌+◌, ◌-◌, ◌==◌, ◌&&◌, ◌||◌, not, Bool, List, [], ◌∷◌, ◌++◌, codes, decimal, length}
use Rattle.std.specs.Prelude.{nat_lt, Option, Some, None, is_some, Result, Ok, Err, if◌then◌else◌, slice_get}
use Rattle.std.specs.Prelude.{slice_index_or, slice_set}
use Rattle.std.specs.List.{list_all}
use Rattle.std.specs.Option.{option_and_then, option_map_or}
use Rattle.std.specs.Str.{bytes_eq}
use Rattle.step_trace.specs.Traces.{Recorded, step_at}
use Rattle.step_trace.specs.Ticks.{tick_of}
use Rattle.step_trace.specs.declared.steps.Act.{Act}
use Rattle.step_trace.specs.declared.steps.Act.TheVariants as act
use Rattle.step_trace.specs.declared.steps.Step.{Step}
use Rattle.trace_text.specs.Records.{field_of, number_of}
use Rattle.trace_text.specs.Records as texts
use Rattle.step_tables.specs.declared.refusals.TableError.{TableError}
use Rattle.step_tables.specs.declared.refusals.TableError.TheVariants.{Unfit}
use Rattle.trace_text.specs.Names.{has_name, is_message_name, is_name, words_of}
use Rattle.step_tables.specs.Told.{Said, Told}

-- whether a field is the number of a record, or nothing
abbrev pub is_source : List ℕ → Bool
is_source field = (length field == 0) || is_some (number_of field)

-- whether the record is that of a step of this number, in this tick
abbrev pub is_at : ℕ → ℕ → List (List ℕ) → Bool
is_at number tick fields =
    (length fields == 9) && (bytes_eq (field_of fields 0) (decimal number) &&
    (bytes_eq (field_of fields 1) (decimal tick) && is_source (field_of fields 3)))

-- The names of the nodes once the one at a place is said to have this name: if it has a name, that has to be this one;
-- if not, no other node may have it.
abbrev pub named : ℕ → List (List ℕ) → ℕ → List ℕ → Result (List (List ℕ)) TableError
named at nodes place name =
    if nat_lt 0 (length (slice_index_or nodes place []))
    then (if bytes_eq (slice_index_or nodes place []) name then Ok nodes else Err (Unfit at))
    else if is_name name && not (has_name nodes name) then Ok (slice_set nodes place name)
    else Err (Unfit at)

-- what the message of this number is called
abbrev pub message_at : List Said → ℕ → List ℕ
message_at rows number = option_map_or (λ row. row.message) (slice_get rows (number - 1)) []

-- whether there are as many words as messages, and each message's name is among them
abbrev pub are_names_of : List Said → List ℕ → List (List ℕ) → Bool
are_names_of rows ids words = (length words == length ids) && list_all (λ id. has_name words (message_at rows id)) ids

-- what the nodes are called, once the record says what a step does
abbrev pub with_act : ℕ → List Said → List (List ℕ) → Act → List (List ℕ) → Result (List (List ℕ)) TableError
with_act at rows nodes (act.Send to) fields =
    if bytes_eq (field_of fields 6) (codes "send") && is_message_name (field_of fields 8) then named at nodes (to - 1)
    (field_of fields 7)
    else Err (Unfit at)
with_act at rows nodes (act.Receive ends ids) fields =
    if bytes_eq (field_of fields 6) (codes "receive") &&
    (length (field_of fields 7) == 0 && are_names_of rows ids (words_of (field_of fields 8))) then Ok nodes
    else Err (Unfit at)

-- what the message of a step is called
abbrev pub message_of : Act → List (List ℕ) → List ℕ
message_of (act.Send to) fields = field_of fields 8
message_of (act.Receive ends ids) fields = []

-- what a record says about a step
abbrev pub said_of : Act → List (List ℕ) → Said
said_of a fields = record {
  source = number_of (field_of fields 3);
  message = message_of a fields;
  begins = number_of (field_of fields 2);
  time = number_of (field_of fields 4);
}

-- what is known once the record says what a step does
abbrev pub with_deed : ℕ → Told → Act → List (List ℕ) → Result Told TableError
with_deed at told a fields = texts.◌>>=◌ (with_act at told.rows told.nodes a fields)
    (λ nodes. Ok (record { nodes = nodes; rows = told.rows ++ said_of a fields ∷ [] }))

-- what is known with the record of one more step
abbrev pub with_step : ℕ → Told → Step → List (List ℕ) → Result Told TableError
with_step at told step fields =
    texts.◌>>=◌ (named at told.nodes (step.proc - 1) (field_of fields 5))
    (λ nodes. with_deed at (record { nodes = nodes; rows = told.rows }) step.act fields)

-- the same, if the trace has that step, and the record is in its place
abbrev pub with_record : ℕ → Recorded → Told → Option Step → List (List ℕ) → Result Told TableError
with_record at trace told None fields = Err (Unfit at)
with_record at trace told (Some step) fields =
    if is_at (at - 1) (tick_of trace (at - 1)) fields then with_step at told step fields else Err (Unfit at)

-- what is known with one more record
abbrev pub after_record : Recorded → Told → List (List ℕ) → Result Told TableError
after_record trace told fields = with_record (length told.rows + 2) trace told
    (step_at trace.steps (length told.rows + 1)) fields

-- the number of the record of this step
abbrev pub source_at : List Said → ℕ → Option ℕ
source_at rows number = option_and_then (λ row. row.source) (slice_get rows (number - 1))

-- when this step was made by the clock
abbrev pub time_at : List Said → ℕ → Option ℕ
time_at rows number = option_and_then (λ row. row.time) (slice_get rows (number - 1))
