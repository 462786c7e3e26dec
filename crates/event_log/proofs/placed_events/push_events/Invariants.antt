use Rattle.std.proofs.Common.{◌≡◌, ◌++◌, map, take}
use Rattle.event_log.specs.Events.{seen}
use Rattle.event_log.specs.PackedEvents.{placed}
use Rattle.event_log.proofs.placed_events.push_events.Given as goal

-- the events are the old ones, and then those before this one
abbrev pub invariant-loop-event : goal.invariant-loop-event
invariant-loop-event l = map seen l.events.items
    ≡ map seen l.fn.events.items ++ map (placed l.messages) (take l.event-index l.kept)
