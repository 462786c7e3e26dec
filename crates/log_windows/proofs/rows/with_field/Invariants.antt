use Rattle.std.proofs.Common.{◌≡◌, [], map}
use Rattle.std.specs.List.{range_with_len}
use Rattle.csv.specs.Records.{fields_of, partial_of}
use Rattle.log_windows.specs.Rows.{field_or}
use Rattle.log_windows.proofs.rows.with_field.Given as goal

-- the first fields
abbrev pub invariant-loop-i : goal.invariant-loop-i
invariant-loop-i l = record {
  whole : partial_of l.row ≡ [];
  fields : fields_of l.row ≡ map (field_or (fields_of l.fields) l.at l.value) (range_with_len 0 l.i);
}
