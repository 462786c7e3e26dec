use Rattle.std.proofs.Common.{◌≡◌, map, take}
use Rattle.timed_events.specs.WalkBriefs.{walk_brief_of}
use Rattle.timed_events.proofs.walk_briefs.walk_briefs_of.Given as goal

abbrev pub invariant-loop-event : goal.invariant-loop-event
invariant-loop-event l = l.briefs.items ≡ map walk_brief_of (take l.event-index l.events)
