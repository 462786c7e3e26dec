use Rattle.std.proofs.Common.{◌≡◌, ◌∷◌, [], take, map}
use Rattle.csv.specs.Records.{fields_of, partial_of}
use Rattle.trace_text.specs.RecordWriting.{ArePlain}
use Rattle.front.specs.Columns.{entry_text}
use Rattle.link_bounds.specs.RowTexts.{bound_name, entries_of}
use Rattle.link_bounds.proofs.row_texts.write_row.Given as goal

-- the entries so far
abbrev pub invariant-loop-entry : goal.invariant-loop-entry
invariant-loop-entry l = record {
  items : l.entry-items ≡ entries_of l.row;
  whole : partial_of l.fields ≡ [];
  fields : fields_of l.fields ≡ bound_name l.row ∷ map entry_text (take l.entry-index (entries_of l.row));
  plain : ArePlain (fields_of l.fields);
}
