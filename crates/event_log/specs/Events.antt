-- The events of a log, with numbers in place of names.
use Rattle.std.specs.Prelude.{ℕ, ℤ, List, [], Option, map}
use Rattle.timed_events.specs.declared.events.Event.{Event}
use Rattle.timed_events.specs.declared.events.EventAct.{EventAct}
use Rattle.timed_events.specs.declared.events.EventAct.TheVariants as act
use Rattle.event_log.specs.KeptEvents.{KeptAct, KeptEvent}
use Rattle.event_log.specs.KeptEvents as kept
use Rattle.trace_text.specs.Names.{words_of}
use Rattle.event_log.specs.SentMessages.{Sent, place_for}

-- what an event does: it sends to a processor, or receives messages, each by the place of the event that sent it
pub data SeenAct : Type 0 where
  Sends : ℕ → SeenAct
  Receives : List (Option ℕ) → SeenAct

-- the messages that an event receives
abbrev pub received : SeenAct → List (Option ℕ)
received (Sends to) = []
received (Receives messages) = messages

-- an event, with its lists plain
pub record Seen : Type 0 where
  pub time : ℤ
  pub processor : ℕ
  pub act : SeenAct

abbrev pub seen_act : EventAct → SeenAct
seen_act (act.Send to) = Sends to
seen_act (act.Receive messages) = Receives messages

-- what a contract sees of an event
abbrev pub seen : Event → Seen
seen event = record { time = event.time; processor = event.processor; act = seen_act event.act }

abbrev pub resolved_act : Sent → ℕ → KeptAct → SeenAct
resolved_act sent processor (kept.Send to) = Sends to
resolved_act sent processor (kept.Receive names) = Receives (map (place_for sent processor) (words_of names))

-- an event with the places of the sends in place of the names of messages
abbrev pub resolved : Sent → KeptEvent → Seen
resolved sent event =
    record { time = event.time; processor = event.processor; act = resolved_act sent event.processor event.act }
