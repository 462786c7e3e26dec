use Rattle.std.proofs.Common.{◌≡◌, ◌-◌, ◌<◌, Some, drop, take}
use Rattle.std.specs.Prelude.{IsTrue}
use Rattle.csv.specs.Records.{fields_of}
use Rattle.trace_text.specs.TextRefusals.{numbers_of, begins_with_number}
use Rattle.trace_text.proofs.step_records.values.Given as goal

-- the values are the numbers before i, and the first field of these was a number
abbrev pub invariant-loop-i : goal.invariant-loop-i
invariant-loop-i l = (numbers_of (take (l.i - 1) (drop 1 (fields_of l.fields))) ≡ Some l.values.items)
    × (1 < l.i → IsTrue (begins_with_number (drop 1 (fields_of l.fields))))
