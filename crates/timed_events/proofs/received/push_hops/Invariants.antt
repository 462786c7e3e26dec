use Rattle.std.proofs.Common.{◌≡◌, ◌++◌, length, take}
use Rattle.std.specs.List.{flat_map}
use Rattle.timed_events.specs.Received.{hop_in}
use Rattle.timed_events.proofs.received.push_hops.Given as goal

abbrev pub invariant-loop-message : goal.invariant-loop-message
invariant-loop-message l = l.hops.items ≡ l.initial.hops.items ++ flat_map
    (hop_in (length l.events) l.place) (take l.message-index l.messages)
