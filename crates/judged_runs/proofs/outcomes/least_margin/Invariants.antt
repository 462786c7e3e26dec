use Rattle.std.proofs.Common.{◌≡◌, ◌+◌, ◌≤◌, drop, length}
use Rattle.judged_runs.specs.Outcomes.{margins_after}
use Rattle.judged_runs.proofs.outcomes.least_margin.Given as goal

-- the runs from this one on have been looked at
abbrev pub invariant-loop-k : goal.invariant-loop-k
invariant-loop-k l = record {
  inside : l.k ≤ length l.outcomes;
  found : l.least ≡ margins_after (l.k + 1) (drop l.k l.outcomes);
}
