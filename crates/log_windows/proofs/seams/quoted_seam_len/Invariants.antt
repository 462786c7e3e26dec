use Rattle.std.proofs.Common.{◌≡◌, ◌≤◌, take}
use Rattle.csv.specs.declared.parser.State.TheVariants as st
use Rattle.trace_text.specs.CsvPlaces.{state_of}
use Rattle.shared_reading.specs.Seams.{state_after, IsClosed}
use Rattle.log_windows.proofs.SeamPlaces.{NoneClosed}
use Rattle.log_windows.proofs.seams.quoted_seam_len.Given as goal

-- where the reader is, and the last place between two records so far
abbrev pub invariant-loop-i : goal.invariant-loop-i
invariant-loop-i l = record {
  within : l.seam ≤ l.i;
  place : state_of l.place ≡ state_after st.StartRecord (take l.i l.text);
  closed : IsClosed (take l.seam l.text);
  last : NoneClosed l.text l.seam l.i;
}
