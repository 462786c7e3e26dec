-- What the walk that merges asks of events in any order (own).
use Rattle.std.specs.Prelude.{min}
use Rattle.timed_events.specs.declared.events.Event.{Event}
use Rattle.merged_receives.specs.declared.actors.Actor.{Actor}
use Rattle.merged_receives.specs.Merges.{is_receive}

-- an event's processor in a byte, and whether the event receives
abbrev pub actor_of : Event → Actor
actor_of e = record { processor = min e.processor 255; receives = is_receive e.act }
