-- The messages that events received (own).
use Rattle.std.specs.Prelude.{ℕ, List, [], ◌∷◌, length, Option, Some, None, nat_lt, if◌then◌else◌}
use Rattle.std.specs.List.{flat_map, range_with_len}
use Rattle.timed_events.specs.declared.cause_cycles.Hop.{Hop}
use Rattle.timed_events.specs.declared.events.Event.{Event}
use Rattle.timed_events.specs.Checks.{messages_at}

-- a message of the event at place i, if one of so many events sent it
abbrev pub hop_in : ℕ → ℕ → Option ℕ → List Hop
hop_in count i None = []
hop_in count i (Some s) = if nat_lt s count then record { event = i; message = s } ∷ [] else []

-- the messages of the event at place i that an event sent
abbrev pub hops_at : List Event → ℕ → List Hop
hops_at events i = flat_map (hop_in (length events) i) (messages_at events i)

-- those of all events, in the order of the events that received them
abbrev pub hops_of : List Event → List Hop
hops_of events = flat_map (hops_at events) (range_with_len 0 (length events))
