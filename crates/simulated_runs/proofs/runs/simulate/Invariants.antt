use Rattle.std.proofs.Common.{◌≡◌}
use Rattle.simulated_runs.specs.Simulations.{HasRun}
use Rattle.simulated_runs.proofs.runs.simulate.Given as goal

abbrev pub invariant-loop : goal.invariant-loop
invariant-loop l = record {
  run : HasRun l.fn.options.config l.fn.options.crashes.items l.fn.options.bounds l.simulation l.counter;
  limit : l.simulation.world.limit ≡ l.fn.options.steps;
}
