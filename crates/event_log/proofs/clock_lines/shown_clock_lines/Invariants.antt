use Rattle.std.proofs.Common.{◌≡◌, map}
use Rattle.std.specs.List.{range_with_len}
use Rattle.event_log.specs.ClockLines.{clock_line_at}
use Rattle.event_log.proofs.clock_lines.shown_clock_lines.Given as goal

abbrev pub invariant-loop-k : goal.invariant-loop-k
invariant-loop-k l = l.lines.items ≡ map (clock_line_at l.text l.nodes l.events l.hops) (range_with_len 0 l.k)
