-- The first refusal of a report text, record by record.
use Rattle.std.specs.Prelude.{ℕ, ◌+◌, List, [], ◌∷◌, ◌++◌, length, Option, Some, None, Result, Ok, Err, Bool}
use Rattle.std.specs.Prelude.{true, false, ◌==◌, ◌&&◌, if◌then◌else◌, map, option_map, nat_le, is_ok}
use Rattle.std.specs.Cmp.Lexicographic.{pointwise}
use Rattle.std.specs.Str.{bytes_eq}
use Rattle.step_trace.specs.declared.rows.Row.{Row}
use Rattle.front.specs.declared.columns.TheConstants.{COLUMNS}
use Rattle.front.specs.declared.refusals.ReportError.{ReportError}
use Rattle.front.specs.declared.refusals.ReportError.TheVariants.{TooLarge, BadHeader, BadFields, Memory}
use Rattle.front.specs.Columns.{report_header, row_of_entries}
use Rattle.trace_text.specs.declared.byte_loops.TheConstants.{MAX_TEXT_BYTES}
use Rattle.trace_text.specs.Records.{GivesUnless, after_records, number_of, records_of_text}
use Rattle.trace_text.specs.Records as texts

-- whether the record has the names of the columns
abbrev pub is_header : List (List ℕ) → Bool
is_header fields = (length fields == COLUMNS) && pointwise bytes_eq fields report_header

-- what a field says: that it is empty, or a number
abbrev pub entry_of : List ℕ → Option (Option ℕ)
entry_of [] = Some None
entry_of (b ∷ bs) = option_map (λ n. Some n) (number_of (b ∷ bs))

-- the row of this number that a record says
abbrev pub row_of : ℕ → List (List ℕ) → Result Row ReportError
row_of at fields = if length fields == COLUMNS then row_of_entries at (map entry_of fields) else Err (BadFields at)

-- the rows with one more
abbrev pub with_row : List Row → Result Row ReportError → Result (Option (List Row)) ReportError
with_row rows (Ok r) = Ok (Some (rows ++ r ∷ []))
with_row rows (Err e) = Err e

-- what one more record makes of the rows; before the header there are none
abbrev pub next_rows : Option (List Row) → List (List ℕ) → Result (Option (List Row)) ReportError
next_rows None fields = if is_header fields then Ok (Some []) else Err BadHeader
next_rows (Some rows) fields = with_row rows (row_of (length rows + 1) fields)

-- there has to be a header
abbrev pub rows_at_end : Option (List Row) → Result (List Row) ReportError
rows_at_end None = Err BadHeader
rows_at_end (Some rows) = Ok rows

-- the rows of these records, or the first refusal
abbrev pub rows_of_records : List (List (List ℕ)) → Result (List Row) ReportError
rows_of_records records = texts.◌>>=◌ (after_records next_rows None records) rows_at_end

-- the rows of a text, or the first refusal
abbrev pub rows_of_text : List ℕ → Result (List Row) ReportError
rows_of_text text = if nat_le (length text) MAX_TEXT_BYTES then rows_of_records (records_of_text text) else Err TooLarge

abbrev pub is_memory : ReportError → Bool
is_memory Memory = true
is_memory e = false

-- the answer, seen by view, is what the table gives, or out of memory
abbrev pub Gives : {X Y : Type 0} → (X → Y) → Result X ReportError → Result Y ReportError → Type 0
Gives view result table = GivesUnless is_memory view result table

-- whether a row has to be kept for a record: the header is past, and the record is a row's
abbrev pub record_keeps : Option (List Row) → List (List ℕ) → Bool
record_keeps None fields = false
record_keeps (Some rows) fields = is_ok (row_of (length rows + 1) fields)
