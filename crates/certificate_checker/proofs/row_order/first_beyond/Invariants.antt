use Rattle.std.proofs.Common.{ℕ, ◌<◌}
use Rattle.certificate_checker.specs.Verdicts.{HasRow}
use Rattle.certificate_checker.proofs.row_order.first_beyond.Given as goal

-- no row up to number k is one
abbrev pub invariant-loop-k : goal.invariant-loop-k
invariant-loop-k l = (j : ℕ) → ((a : HasRow l.rows j) × (l.last < a.row.gst)) → l.k < j
