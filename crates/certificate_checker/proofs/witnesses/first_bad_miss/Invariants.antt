use Rattle.std.proofs.Common.{ℕ, ◌<◌}
use Rattle.certificate_checker.proofs.Common.{after_stretch, ShowsDelta, HasRow}
use Rattle.certificate_checker.proofs.witnesses.first_bad_miss.Given as goal

-- no row up to number k is one
abbrev pub invariant-loop-k : goal.invariant-loop-k
invariant-loop-k l = (j : ℕ)
    → ((a : HasRow l.rows j) × (¬ ShowsDelta l.set l.trace (after_stretch l.rows l.trace.last j) a.row.delta a.row.miss)) → l.k < j
