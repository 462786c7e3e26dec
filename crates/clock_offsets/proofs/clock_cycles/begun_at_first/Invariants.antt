use Rattle.std.proofs.Common.{◌≤◌}
use Rattle.clock_offsets.proofs.clock_cycles.begun_at_first.Given as goal

abbrev pub invariant-loop-place : goal.invariant-loop-place
invariant-loop-place l = l.first ≤ l.place
