use Rattle.std.proofs.Common.{◌≡◌, length, map, take, drop}
use Rattle.std.specs.List.{All}
use Rattle.event_log.specs.Events.{resolved}
use Rattle.event_log.specs.PackedEvents.{IsWithin, placed, unpacked}
use Rattle.event_log.proofs.placed_events.place_all.Given as goal

-- the events before i are placed, and the others are as they were
abbrev pub invariant-loop-i : goal.invariant-loop-i
invariant-loop-i l = record {
  within : All (IsWithin (length l.messages.items)) (take l.i l.events);
  placed : map (placed l.messages.items) (take l.i l.events)
      ≡ map (resolved l.sent) (map (unpacked l.names) (take l.i l.fn.events));
  rest : drop l.i l.events ≡ drop l.i l.fn.events;
}
