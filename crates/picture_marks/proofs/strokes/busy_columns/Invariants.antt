use Rattle.std.proofs.Common.{◌≡◌, ◌<◌, ◌≤◌, ℕ, length}
use Rattle.step_trace.specs.declared.processors.TheConstants.{MAX_MEMBER}
use Rattle.picture_marks.specs.Strokes.{busy_at, steps_to}
use Rattle.picture_marks.specs.declared.report_rows.TheConstants.{COLUMNS}
use Rattle.picture_marks.specs.declared.strokes.TheConstants.{PLACES}
use Rattle.picture_marks.proofs.strokes.busy_columns.Given as goal

abbrev pub invariant-loop-i : goal.invariant-loop-i
invariant-loop-i l = record {
  len : length l.busy.items ≡ PLACES;
  each : (p c : ℕ) → p ≤ MAX_MEMBER → c < COLUMNS → busy_at l.busy.items p c ≡ steps_to l.trace l.columns p c l.i;
}
