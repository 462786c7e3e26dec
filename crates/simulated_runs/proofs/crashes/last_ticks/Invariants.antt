use Rattle.std.proofs.Common.{◌≡◌, map}
use Rattle.std.specs.List.{range_with_len}
use Rattle.simulated_runs.specs.Crashes.{last_tick}
use Rattle.simulated_runs.proofs.crashes.last_ticks.Given as goal

abbrev pub invariant-loop-i : goal.invariant-loop-i
invariant-loop-i l = l.lasts.items ≡ map (last_tick l.crashes) (range_with_len 1 l.i)
