use Rattle.std.proofs.Common.{ℕ, ◌≡◌, ◌+◌, ◌<◌, ◌≤◌, Some, max}
use Rattle.std.specs.Prelude.{slice_get}
use Rattle.step_trace.specs.declared.rows.Row.{Row}
use Rattle.step_trace.specs.Fronts.{triple_of}
use Rattle.decision_claims.specs.Formulas.{deadline}
use Rattle.judged_runs.proofs.prefixes.before_deadlines.Given as goal

-- no row from number `k` on that begins by that tick has an earlier deadline, and each one before has so much time at
-- least
abbrev pub invariant-loop-k : goal.invariant-loop-k
invariant-loop-k l = record {
  end : l.nearest.least ≤ l.trace.last + 1;
  later : (i : ℕ) (r : Row) → l.k ≤ i → slice_get l.rows i ≡ Some r
      → r.gst ≤ l.until → l.nearest.least ≤ deadline l.trace.config l.start l.formula (triple_of r);
  time : (i : ℕ) (r : Row) → i < l.k → slice_get l.rows i ≡ Some r
      → max r.gst l.start + l.nearest.time ≤ deadline l.trace.config l.start l.formula (triple_of r);
}
