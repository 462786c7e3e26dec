use Rattle.std.proofs.Common.{ℕ, ◌≡◌, ◌≤◌, length, Some}
use Rattle.certificate_checker.proofs.Common.{Row, DeltaFails, row_at, Stands, KnowsMissesAfter, AreFrom}
use Rattle.certificate_checker.proofs.FailingRows.{FoundAfter}
use Rattle.certificate_checker.proofs.bounds.first_failing_delta.Given as goal

-- the rows after number k are scanned
abbrev pub invariant-loop-k : goal.invariant-loop-k
invariant-loop-k l = record {
  end : l.k ≤ length l.rows;
  high : l.longest.after ≤ length l.trace.steps;
  known : KnowsMissesAfter l.set l.trace l.longest.after l.longest.miss;
  above : (j : ℕ) (r : Row) → j ≤ l.k → row_at l.rows j ≡ Some r → AreFrom l.trace l.longest.after r.gst;
  found : FoundAfter (λ k m. Stands l.set l.trace l.rows (DeltaFails k m)) l.k l.found;
}
