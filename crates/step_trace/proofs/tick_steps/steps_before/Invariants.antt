use Rattle.std.proofs.Common.{◌-◌}
use Rattle.step_trace.proofs.TickSearches.{IsSearched}
use Rattle.step_trace.proofs.tick_steps.steps_before.Given as goal

abbrev pub invariant-loop-low : goal.invariant-loop-low
invariant-loop-low l = IsSearched l.trace l.tick l.low l.high

abbrev pub decreases-loop-low : goal.decreases-loop-low
decreases-loop-low l = l.high - l.low
