use Rattle.std.proofs.Common.{◌≡◌, filter}
use Rattle.std.specs.List.{range_with_len}
use Rattle.command_options.specs.Simulations.{is_live}
use Rattle.simulated_runs.proofs.crashes.live.Given as goal

abbrev pub invariant-loop-i : goal.invariant-loop-i
invariant-loop-i l = l.live.items ≡ filter (is_live l.crashes) (range_with_len 1 l.i)
