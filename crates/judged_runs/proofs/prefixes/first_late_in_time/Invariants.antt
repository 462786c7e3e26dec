use Rattle.std.proofs.Common.{◌≡◌, ◌-◌}
use Rattle.decision_claims.specs.Formulas.{deadline}
use Rattle.judged_runs.specs.LateInTime.{IsAhead}
use Rattle.judged_runs.proofs.prefixes.first_late_in_time.Given as goal

-- each deadline before the tick at which the search goes on is kept
abbrev pub invariant-loop-ahead : goal.invariant-loop-ahead
invariant-loop-ahead l = record {
  ahead : IsAhead l.fn.set l.trace l.decisions (deadline l.trace.config l.start l.formula) l.ahead;
  set : l.analyst.set ≡ l.fn.set;
  seen : l.analyst.seen ≡ l.trace;
}

abbrev pub decreases-loop-ahead : goal.decreases-loop-ahead
decreases-loop-ahead l = l.end - l.ahead.tick
