use Rattle.std.proofs.Common.{◌≡◌, map}
use Rattle.std.specs.List.{range_with_len}
use Rattle.event_log.specs.HopLines.{line_at}
use Rattle.event_log.proofs.hop_lines.shown_lines.Given as goal

abbrev pub invariant-loop-k : goal.invariant-loop-k
invariant-loop-k l = l.lines.items ≡ map (line_at l.text l.nodes l.events l.hops) (range_with_len 0 l.k)
