use Rattle.std.proofs.Common.{ℕ, ◌≡◌, ◌<◌, [], length, get_or}
use Rattle.csv.specs.Records.{fields_of}
use Rattle.trace_text.specs.Records.{field_of}
use Rattle.front.specs.Columns.{report_header}
use Rattle.front.proofs.row_records.is_header.Given as goal

-- the fields so far are the names
abbrev pub invariant-loop-i : goal.invariant-loop-i
invariant-loop-i l = record {
  long : length (fields_of l.fields) ≡ length report_header;
  same : (k : ℕ) → k < l.i → field_of (fields_of l.fields) k ≡ get_or report_header k [];
}
