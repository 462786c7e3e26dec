use Rattle.std.proofs.Common.{◌≡◌, ◌-◌, Some}
use Rattle.decision_claims.specs.Claims.{deadline_times}
use Rattle.judged_runs.specs.Factors.{IsNeeded}
use Rattle.judged_runs.proofs.factors.needed_by_some.Given as goal

-- no smaller factor is enough
abbrev pub invariant-loop-x : goal.invariant-loop-x
invariant-loop-x l = record {
  needed : IsNeeded l.fn.set l.trace l.decisions (deadline_times l.trace.config l.start l.formula) (Some l.factor);
  set : l.analyst.set ≡ l.fn.set;
  seen : l.analyst.seen ≡ l.trace;
}

abbrev pub decreases-loop-x : goal.decreases-loop-x
decreases-loop-x l = l.end - l.x
