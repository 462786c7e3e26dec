use Rattle.std.proofs.Common.{◌≡◌}
use Rattle.step_trace.specs.Cuts.{first_steps}
use Rattle.step_trace.proofs.traces.Trace.first_steps.Given as goal

abbrev pub invariant-loop-so_far : goal.invariant-loop-so_far
invariant-loop-so_far l = l.front ≡ first_steps l.self l.so_far
