use Rattle.std.proofs.Common.{◌≡◌, ◌-◌, length, take}
use Rattle.step_trace.specs.declared.traces.TheConstants.{MAX_STEPS}
use Rattle.step_buffers.proofs.replays.replay.Given as goal

abbrev pub invariant-loop-step : goal.invariant-loop-step
invariant-loop-step l = record {
  config : l.world.trace.config ≡ l.trace.config;
  limit : l.world.limit ≡ MAX_STEPS;
  steps : l.world.trace.steps ≡ take (length l.world.trace.steps) l.trace.steps;
}

abbrev pub decreases-loop-step : goal.decreases-loop-step
decreases-loop-step l = length l.trace.steps - length l.world.trace.steps
