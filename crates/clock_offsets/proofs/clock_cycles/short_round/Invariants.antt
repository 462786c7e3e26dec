use Rattle.std.proofs.Common.{◌≡◌, length}
use Rattle.clock_offsets.proofs.clock_cycles.short_round.Given as goal

abbrev pub invariant-loop-clock : goal.invariant-loop-clock
invariant-loop-clock l = length l.through.items ≡ 4096
