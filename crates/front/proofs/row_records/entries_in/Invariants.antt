use Rattle.std.proofs.Common.{◌≡◌, length, map, take}
use Rattle.csv.specs.Records.{fields_of}
use Rattle.front.specs.declared.columns.TheConstants.{COLUMNS}
use Rattle.front.specs.ReportRefusals.{entry_of}
use Rattle.front.proofs.row_records.entries_in.Given as goal

-- the fields before i were read
abbrev pub invariant-loop-i : goal.invariant-loop-i
invariant-loop-i l = record {
  long : length l.entries ≡ COLUMNS;
  read : take l.i l.entries ≡ map entry_of (take l.i (fields_of l.fields));
}
