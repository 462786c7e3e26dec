-- What csv reads from the text of a report is the report's records.
use Rattle.std.proofs.Common.{ℕ, ◌≡◌, ◌+◌, ◌<◌, ◌^◌, length, take, get_or, List, [], ◌∷◌, ◌++◌, map, Option, Some, None, All, refl, arith}
use Rattle.std.proofs.lemmas.List.{map_more}
use Rattle.std.proofs.lemmas.List.Elements.{All-head, All-tail}
use Rattle.csv.specs.Reading.{strip_bom}
use Rattle.step_trace.specs.declared.rows.Row.{Row}
use Rattle.trace_text.specs.RecordWriting.{ArePlain}
use Rattle.front.specs.Columns.{AreBelow, entries_of, entry_text}
use Rattle.front.specs.ReportTexts.{row_record, report_records, report_text, IsRow64, StandsFor}
use Rattle.trace_text.proofs.LinesRead.{AreLines, lines-read}
use Rattle.trace_text.proofs.PlainFields.{IsPlain-decimal}

plain-entries : (entries : List (Option ℕ)) → AreBelow (2 ^ 64) entries → ArePlain (map entry_text entries)
plain-entries [] h = tt
plain-entries (None ∷ rest) h = (refl, plain-entries rest h.1)
plain-entries (Some n ∷ rest) h = (IsPlain-decimal n h.0, plain-entries rest h.1)

lines-rows : (rows : List Row) → All IsRow64 rows → AreLines (map row_record rows)
lines-rows [] h = tt
lines-rows (r ∷ rows) h =
    (omega arith, plain-entries (entries_of r) (All-head IsRow64 r rows h).numbers, lines-rows rows (All-tail IsRow64 r rows h))

lines-report : (rows : List Row) → All IsRow64 rows → AreLines (report_records rows)
lines-report rows h = (omega arith, (refl, (refl, (refl, (refl, (refl, (refl, (refl, (refl, tt)))))))), lines-rows rows h)

no-mark : (rows : List Row) → strip_bom (report_text rows) ≡ report_text rows
unfolding strip_bom
no-mark rows = refl

-- the text of rows encodes them
pub StandsFor-report_text : (rows : List Row) → All IsRow64 rows → StandsFor (report_text rows) rows
StandsFor-report_text rows h = lines-read (report_records rows) (lines-report rows h) (no-mark rows)

-- one more entry
pub entries_more : (entries : List (Option ℕ)) (k : ℕ) → k < length entries
    → map entry_text (take (k + 1) entries) ≡ map entry_text (take k entries) ++ entry_text (get_or entries k None) ∷ []
entries_more entries k inside = map_more entry_text entries k None inside
