use Rattle.std.proofs.Common.{◌≤◌}
use Rattle.step_trace.specs.Ticks.{tick_of}
use Rattle.step_trace.proofs.traces.Trace.steps_until.Given as goal

abbrev pub invariant-loop-before : goal.invariant-loop-before
invariant-loop-before l = tick_of l.self l.before ≤ l.tick
