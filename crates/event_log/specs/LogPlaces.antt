-- Where the events that are left of a log are in it, and what is against them by these places.
use Rattle.std.specs.Prelude.{ℕ, ◌-◌, List, [], ◌∷◌, length, Option, Some, None, option_map, nat_lt, if◌then◌else◌}
use Rattle.std.specs.Prelude.{slice_index_or}
use Rattle.timed_events.specs.declared.cause_cycles.Hop.{Hop}
use Rattle.timed_events.specs.declared.events.Event.{Event}
use Rattle.timed_events.specs.declared.events.EventError.{EventError}
use Rattle.timed_events.specs.declared.events.EventError.TheVariants as refused
use Rattle.timed_events.specs.Checks.{messages_at}
use Rattle.timed_events.specs.declared.spread_traces.Moved.{Moved}

-- the place in the log of the event at a place among those that are left
abbrev pub place_in : List ℕ → ℕ → ℕ
place_in places i = slice_index_or places i 0

abbrev pub log_place : Option (List ℕ) → ℕ → ℕ
log_place None i = i
log_place (Some places) i = place_in places i

-- how far events moved, by the place of the farthest in the log
abbrev pub moved_in : Option (List ℕ) → Moved → Moved
moved_in None moved = moved
moved_in (Some places) moved =
    record { events = moved.events; ticks = moved.ticks; farthest = option_map (place_in places) moved.farthest }

-- the place in the log of the event that received message k of an event that is made of the events at these places, and
-- which of its messages it is
abbrev pub source_of : List Event → List ℕ → ℕ → ℕ × ℕ
source_of events [] k = (0, k)
source_of events (p ∷ ps) k = if nat_lt k (length (messages_at events p)) then (p, k) else source_of events ps
    (k - length (messages_at events p))

-- the same of message k of event i
abbrev pub source_in : List Event → List ℕ → Option (List (List ℕ)) → ℕ → ℕ → ℕ × ℕ
source_in events places None i k = (place_in places i, k)
source_in events places (Some parts) i k = source_of events (slice_index_or parts i []) k

-- a reason by the place of its event in the log: against a message by that of the event that received it
abbrev pub reason_in : List Event → List ℕ → Option (List (List ℕ)) → EventError → EventError
reason_in events places parts refused.UntilTooEarly = refused.UntilTooEarly
reason_in events places parts refused.TooManyTicks = refused.TooManyTicks
reason_in events places parts (refused.NeverSent i k) =
    refused.NeverSent (source_in events places parts i k).0 (source_in events places parts i k).1
reason_in events places parts (refused.WrongReceiver i k) =
    refused.WrongReceiver (source_in events places parts i k).0 (source_in events places parts i k).1
reason_in events places parts (refused.ReceivedBefore i k) =
    refused.ReceivedBefore (source_in events places parts i k).0 (source_in events places parts i k).1
reason_in events places parts (refused.NotLater i k hint) =
    refused.NotLater (source_in events places parts i k).0 (source_in events places parts i k).1 hint
reason_in events places parts (refused.SecondEvent i tick hint) = refused.SecondEvent (place_in places i) tick hint
reason_in events places parts (refused.Cycle i) = refused.Cycle (place_in places i)
reason_in events places parts refused.Memory = refused.Memory

-- a hop by the places of its events in the log
abbrev pub hop_in : List ℕ → Hop → Hop
hop_in places hop = record { event = place_in places hop.event; message = place_in places hop.message }
