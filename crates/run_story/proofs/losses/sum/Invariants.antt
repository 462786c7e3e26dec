use Rattle.std.proofs.Common.{◌≡◌, ◌≤◌, ◌*◌}
use Rattle.step_trace.specs.declared.traces.TheConstants.{MAX_STEPS}
use Rattle.run_story.specs.Losses.{count_at, sum_to}
use Rattle.run_story.proofs.losses.sum.Given as goal

abbrev pub invariant-loop-k : goal.invariant-loop-k
invariant-loop-k l = record {
  sum : l.sum ≡ sum_to (count_at l.counts) l.k;
  few : l.sum ≤ l.k * MAX_STEPS;
}
