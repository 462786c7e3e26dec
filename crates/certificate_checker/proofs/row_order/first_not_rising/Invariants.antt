use Rattle.std.proofs.Common.{ℕ, ◌<◌, ◌≤◌}
use Rattle.certificate_checker.specs.Verdicts.{HasTwoRows}
use Rattle.certificate_checker.proofs.row_order.first_not_rising.Given as goal

-- no row up to number k is one
abbrev pub invariant-loop-k : goal.invariant-loop-k
invariant-loop-k l = (j : ℕ) → ((a : HasTwoRows l.rows j) × (a.row.gst ≤ a.before.gst)) → l.k < j
