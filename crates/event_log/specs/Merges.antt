-- The events of a log with the receives of a node in one tick as one event, if the node sends nothing between them.
use Rattle.std.specs.Prelude.{ℕ, zero, suc, ◌≡◌, ◌+◌, ◌++◌, List, [], ◌∷◌, length, map, nat_lt, if◌then◌else◌}
use Rattle.std.specs.Prelude.{Option, Some, option_map, slice_get, slice_index}
use Rattle.std.specs.List.{flat_map}
use Rattle.timed_events.specs.declared.events.Clock.{Clock}
use Rattle.timed_events.specs.declared.events.Event.{Event}
use Rattle.timed_events.specs.declared.events.EventAct.{EventAct}
use Rattle.timed_events.specs.declared.events.EventAct.TheVariants as act
use Rattle.timed_events.specs.Checks.{messages_at}
use Rattle.merged_receives.specs.Merges.{AreMerged}
use Rattle.event_log.specs.Events.{Seen, SeenAct, Sends, Receives, seen}
use Rattle.event_log.specs.LostSends.{left_message}
use Rattle.event_log.specs.declared.joined_receives.JoinedReceive.{JoinedReceive}

-- the messages of events, by the new places of their sends
abbrev pub joined_messages : List Event → List ℕ → List ℕ → List (Option ℕ)
joined_messages events places part = flat_map (λ p. map (left_message places) (messages_at events p)) part

abbrev pub joined_act : List Event → List ℕ → List ℕ → EventAct → SeenAct
joined_act events places part (act.Send to) = Sends to
joined_act events places part (act.Receive messages) = Receives (joined_messages events places part)

-- the first of these events, with the messages of all
abbrev pub joined_event : List Event → List ℕ → List ℕ → Event → Seen
joined_event events places part e =
    record { time = e.time; processor = e.processor; act = joined_act events places part e.act }

abbrev pub joined_at : List Event → List ℕ → List ℕ → Option Seen
joined_at events places part = option_map (joined_event events places part) (slice_get events (slice_index part 0))

-- `left` are the events with merged receives, each made of the events at the places that `parts` has for it
pub record AreJoined (events : List Event) (clock : Clock) (left : List Event) (parts : List (List ℕ)) : Type 0 where
  pub places : List ℕ
  pub are : AreMerged events clock parts places
  pub each : map (λ e. Some (seen e)) left ≡ map (joined_at events places) parts

-- an event with these messages in place of its own, if it receives
abbrev pub receiving_act : List (Option ℕ) → SeenAct → SeenAct
receiving_act messages (Sends to) = Sends to
receiving_act messages (Receives own) = Receives messages

abbrev pub receiving : List (Option ℕ) → Seen → Seen
receiving messages e = record { time = e.time; processor = e.processor; act = receiving_act messages e.act }

-- a list of which the one at a place is changed, if there is such a one
abbrev pub changed_at : ℕ → (Seen → Seen) → List Seen → List Seen
changed_at k f [] = []
changed_at zero f (e ∷ es) = f e ∷ es
changed_at (suc k) f (e ∷ es) = e ∷ changed_at k f es

-- events of which one has the messages of a receive that is made of several
abbrev pub with_messages : List Seen → JoinedReceive → List Seen
with_messages es receive = changed_at receive.event (receiving receive.messages) es

-- the messages of all events of a part, if these are several, for the event at a place
abbrev pub joined_receive : List Event → List ℕ → ℕ → List ℕ → List JoinedReceive
joined_receive events places k part = if nat_lt (length part) 2 then []
    else (record { event = k; messages = joined_messages events places part } ∷ [])

-- the same of each part, the first of which is at a place
abbrev pub joined_from : List Event → List ℕ → ℕ → List (List ℕ) → List JoinedReceive
joined_from events places k [] = []
joined_from events places k (part ∷ parts) =
    joined_receive events places k part ++ joined_from events places (k + 1) parts
