use Rattle.std.proofs.Common.{◌≡◌, ◌++◌, map, take, drop}
use Rattle.clock_offsets.specs.MovedClocks.{moved_event}
use Rattle.clock_offsets.proofs.MovedClocks.{AreInTime}
use Rattle.clock_offsets.proofs.alignments.moved_events.Given as goal

abbrev pub invariant-loop-event : goal.invariant-loop-event
invariant-loop-event l = record {
  moved : l.event-items ≡ map (moved_event l.offsets) (take l.event-index l.fn.events.items) ++ drop l.event-index l.fn.events.items;
  in_time : AreInTime l.fn.events.items l.offsets l.latest l.event-index;
}
