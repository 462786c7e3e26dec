-- A table of steps of a window, with the numbers that its records have in the log.
use Rattle.std.specs.Prelude.{ℕ, ◌++◌, List, [], Option, Some, None, Result, Ok, decimal}
use Rattle.csv.specs.Writing.{row_text}
use Rattle.trace_text.specs.Records.{◌>>=◌, after_records, field_of, number_of, records_of_text}
use Rattle.trace_text.specs.RecordWriting.{our_writer}
use Rattle.event_log.specs.declared.refusals.LogError.{LogError}
use Rattle.log_windows.specs.Numbers.{number_in}
use Rattle.log_windows.specs.Rows.{with_field}

-- the places of the window's events in the log, and the records so far
pub record NumberedRows : Type 0 where
  pub places : List ℕ
  pub text : List ℕ

abbrev pub numbered_by : Option ℕ → List ℕ → List (List ℕ) → List (List ℕ)
numbered_by None places fields = fields
numbered_by (Some n) places fields = with_field fields 3 (decimal (number_in places n))

-- a record of a table, with the number of the log in the column of records, if it has a number there
abbrev pub numbered_row : List ℕ → List (List ℕ) → List (List ℕ)
numbered_row places fields = numbered_by (number_of (field_of fields 3)) places fields

-- one record more
abbrev pub next_numbered : NumberedRows → List (List ℕ) → Result NumberedRows LogError
next_numbered rows fields =
    Ok (record rows { text = rows.text ++ row_text our_writer (numbered_row rows.places fields) })

-- a table with the numbers of the log
abbrev pub table_in : List ℕ → List ℕ → Result (List ℕ) LogError
table_in places table = after_records next_numbered (record { places = places; text = [] })
    (records_of_text table) >>= λ rows. Ok rows.text
