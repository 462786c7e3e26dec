use Rattle.std.proofs.Common.{◌≡◌}
use Rattle.std.specs.List.{flat_map, range_with_len}
use Rattle.timed_events.specs.Received.{hops_at}
use Rattle.timed_events.proofs.received.hops_of.Given as goal

abbrev pub invariant-loop-place : goal.invariant-loop-place
invariant-loop-place l = l.hops.items ≡ flat_map (hops_at l.events) (range_with_len 0 l.place)
