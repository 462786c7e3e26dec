-- The events of a log but the sends of messages that no record receives.
use Rattle.std.specs.Prelude.{ℕ, ◌≡◌, ◌==◌, ◌&&◌, not, Bool, List, length, map, Option, option_map, Some, slice_get}
use Rattle.std.specs.List.{filter, list_any, range_with_len}
use Rattle.std.specs.Option.{option_and_then}
use Rattle.timed_events.specs.declared.events.Event.{Event}
use Rattle.timed_events.specs.Checks.{sends_at}
use Rattle.timed_events.specs.Received.{hops_of}
use Rattle.event_log.specs.Events.{Seen, SeenAct, Sends, Receives, seen}

-- whether some event received the message of event s
abbrev pub is_received : List Event → ℕ → Bool
is_received events s = list_any (λ hop. hop.message == s) (hops_of events)

-- whether event s sends a message that no event received
abbrev pub is_lost : List Event → ℕ → Bool
is_lost events s = sends_at events s && not (is_received events s)

-- the places before a place, but those of lost sends, in their order
unfoldable pub left_before : List Event → ℕ → List ℕ
left_before events s = filter (λ p. not (is_lost events p)) (range_with_len 0 s)

-- the places of the events that are left
abbrev pub left_places : List Event → List ℕ
left_places events = left_before events (length events)

-- of each place, its place among those that are left: how many are left before it
unfoldable pub new_places : List Event → List ℕ
new_places events = map (λ s. length (left_before events s)) (range_with_len 0 (length events))

-- a message by the new place of its send
abbrev pub left_message : List ℕ → Option ℕ → Option ℕ
left_message places message = option_and_then (λ s. slice_get places s) message

abbrev pub left_act : List ℕ → SeenAct → SeenAct
left_act places (Sends to) = Sends to
left_act places (Receives messages) = Receives (map (left_message places) messages)

-- an event, with its messages by the new places of their sends
abbrev pub left_event : List ℕ → Seen → Seen
left_event places e = record { time = e.time; processor = e.processor; act = left_act places e.act }

-- the same of the event at a place
abbrev pub renumbered_at : List Event → List ℕ → ℕ → Option Seen
renumbered_at events places p = option_map (λ e. left_event places (seen e)) (slice_get events p)

-- `left` are the events but lost sends, and these are their places among all events
pub record AreLeft (events left : List Event) (places : List ℕ) : Type 0 where
  pub places_are : places ≡ left_places events
  pub each : map (λ e. Some (seen e)) left ≡ map (renumbered_at events (new_places events)) places
