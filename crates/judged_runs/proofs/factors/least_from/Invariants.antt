use Rattle.std.proofs.Common.{◌≡◌, ◌-◌}
use Rattle.decision_claims.specs.Claims.{deadline_times}
use Rattle.judged_runs.specs.Factors.{IsReached}
use Rattle.judged_runs.proofs.factors.least_from.Given as goal

-- so far is the search
abbrev pub invariant-loop-so_far : goal.invariant-loop-so_far
invariant-loop-so_far l = record {
  reached : IsReached l.fn.set l.trace l.decisions (deadline_times l.trace.config l.start l.formula) l.so_far;
  set : l.analyst.set ≡ l.fn.set;
  seen : l.analyst.seen ≡ l.trace;
}

abbrev pub decreases-loop-so_far : goal.decreases-loop-so_far
decreases-loop-so_far l = l.end - l.so_far.ahead.tick
