-- The text of a report: a header, and a record for each row.
use Rattle.std.specs.Prelude.{ℕ, ◌≡◌, ◌^◌, List, ◌∷◌, map}
use Rattle.step_trace.specs.declared.rows.Row.{Row}
use Rattle.trace_text.specs.Records.{records_of_text, text_of_records}
use Rattle.front.specs.Columns.{AreBelow, entries_of, entry_text, report_header}

-- the record of a row
abbrev pub row_record : Row → List (List ℕ)
row_record r = map entry_text (entries_of r)

-- the records of a report
abbrev pub report_records : List Row → List (List (List ℕ))
report_records rows = report_header ∷ map row_record rows

-- the text of a report
abbrev pub report_text : List Row → List ℕ
report_text rows = text_of_records (report_records rows)

-- a row as texts have it: its numbers have 64 bits
pub record IsRow64 (r : Row) : Type 0 where
  pub numbers : AreBelow (2 ^ 64) (entries_of r)

-- a text encodes the rows whose records csv reads from it
abbrev pub StandsFor : List ℕ → List Row → Type 0
StandsFor text rows = records_of_text text ≡ report_records rows
