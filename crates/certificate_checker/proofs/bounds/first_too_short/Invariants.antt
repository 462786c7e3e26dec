use Rattle.std.proofs.Common.{ℕ, ◌≡◌, ◌≤◌, length, Some}
use Rattle.certificate_checker.proofs.Common.{Row, row_at, IsLongestSilence, IsTooShort}
use Rattle.certificate_checker.proofs.FailingRows.{FoundAfter}
use Rattle.certificate_checker.proofs.bounds.first_too_short.Given as goal

-- the rows after number k are scanned
abbrev pub invariant-loop-k : goal.invariant-loop-k
invariant-loop-k l = record {
  end : l.k ≤ length l.rows;
  high : l.until ≤ length l.closings;
  known : IsLongestSilence l.closings l.until l.longest;
  above : (j : ℕ) (r : Row) → j ≤ l.k → row_at l.rows j ≡ Some r → r.gst ≤ l.until;
  found : FoundAfter (IsTooShort l.closings l.rows) l.k l.found;
}
