use Rattle.std.proofs.Common.{◌≡◌, ◌≤◌, ◌++◌, take, drop}
use Rattle.csv.specs.declared.parser.State.TheVariants as st
use Rattle.trace_text.specs.declared.record_limits.TheConstants.{MAX_FIELDS}
use Rattle.trace_text.specs.CsvPlaces.{state_of}
use Rattle.trace_text.specs.RecordLimits.{front_from}
use Rattle.trace_text.proofs.record_limits.front_len.Given as goal

-- no field is one too many so far, and the front goes on with the bytes that are left
abbrev pub invariant-loop-i : goal.invariant-loop-i
invariant-loop-i l = record {
  few : l.progress.fields ≤ MAX_FIELDS;
  front : front_from 0 st.StartRecord l.text ≡ take l.i l.text ++ front_from l.progress.fields
      (state_of l.progress.place) (drop l.i l.text);
}
