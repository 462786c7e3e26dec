use Rattle.std.proofs.Common.{ℕ, ◌<◌}
use Rattle.certificate_checker.proofs.Common.{after_stretch, ShowsPhi, HasRow}
use Rattle.certificate_checker.proofs.witnesses.first_bad_gap.Given as goal

-- no row up to number k is one
abbrev pub invariant-loop-k : goal.invariant-loop-k
invariant-loop-k l = (j : ℕ)
    → ((a : HasRow l.rows j) × (¬ ShowsPhi l.set l.trace (after_stretch l.rows l.trace.last j) a.row.phi a.row.gap)) → l.k < j
