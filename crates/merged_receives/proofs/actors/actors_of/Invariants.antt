use Rattle.std.proofs.Common.{◌≡◌, map, take}
use Rattle.merged_receives.specs.Actors.{actor_of}
use Rattle.merged_receives.proofs.actors.actors_of.Given as goal

-- the events so far
abbrev pub invariant-loop-event : goal.invariant-loop-event
invariant-loop-event l = l.actors.items ≡ map actor_of (take l.event-index l.events)
