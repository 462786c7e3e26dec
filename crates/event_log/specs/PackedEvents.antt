-- Events packed: all received messages stand one after the other in one list, first by their names, later by the places
-- of their sends.
use Rattle.std.specs.Prelude.{ℕ, ◌≡◌, ◌+◌, ◌≤◌, List, Option, length, map, slice_range, ⊤}
use Rattle.std.specs.List.{All}
use Rattle.event_log.specs.declared.packed_events.LentEvent.{LentEvent}
use Rattle.event_log.specs.declared.packed_events.LentAct.{LentAct}
use Rattle.event_log.specs.declared.packed_events.LentAct.TheVariants as lent
use Rattle.event_log.specs.declared.packed_events.PackedEvent.{PackedEvent}
use Rattle.event_log.specs.declared.packed_events.PackedAct.{PackedAct}
use Rattle.event_log.specs.declared.packed_events.PackedAct.TheVariants as packed
use Rattle.event_log.specs.Events.{Seen, SeenAct, Sends, Receives, resolved}
use Rattle.event_log.specs.KeptEvents.{KeptAct, KeptEvent, Send, Receive}
use Rattle.event_log.specs.SentMessages.{Sent}

abbrev pub lent_act : LentAct → KeptAct
lent_act (lent.Send to) = Send to
lent_act (lent.Receive messages) = Receive messages.now

-- what a contract sees of an event whose names are lent
abbrev pub lent_event : LentEvent → KeptEvent
lent_event event = record { time = event.time; processor = event.processor; act = lent_act event.act }

abbrev pub packed_act : ℕ → KeptAct → PackedAct
packed_act start (Send to) = packed.Send to
packed_act start (Receive messages) = packed.Receive start (start + length messages)

-- an event packed, whose names begin at a place
abbrev pub packed_event : ℕ → KeptEvent → PackedEvent
packed_event start event = record { time = event.time; processor = event.processor; act = packed_act start event.act }

abbrev pub unpacked_act : List ℕ → PackedAct → KeptAct
unpacked_act names (packed.Send to) = Send to
unpacked_act names (packed.Receive from to) = Receive (slice_range names from to)

-- the event that was packed, with its names out of these bytes
abbrev pub unpacked : List ℕ → PackedEvent → KeptEvent
unpacked names event = record { time = event.time; processor = event.processor; act = unpacked_act names event.act }

abbrev pub placed_act : List (Option ℕ) → PackedAct → SeenAct
placed_act messages (packed.Send to) = Sends to
placed_act messages (packed.Receive from to) = Receives (slice_range messages from to)

-- the event that was packed, with its messages out of these
abbrev pub placed : List (Option ℕ) → PackedEvent → Seen
placed messages event = record { time = event.time; processor = event.processor; act = placed_act messages event.act }

unfoldable pub ActIsWithin : ℕ → PackedAct → Type 0
ActIsWithin count (packed.Send to) = ⊤
ActIsWithin count (packed.Receive from to) = (from ≤ to) × (to ≤ count)

-- the messages of a packed event stand within so many bytes of names, or so many places
abbrev pub IsWithin : ℕ → PackedEvent → Type 0
IsWithin count event = ActIsWithin count event.act

-- packed events before and after: the messages of the latter are by the places of the sends
pub record ArePlaced (sent : Sent) (names : List ℕ) (messages : List (Option ℕ)) (old new : List PackedEvent)
    : Type 0 where
  pub within : All (IsWithin (length messages)) new
  pub placed : map (placed messages) new ≡ map (resolved sent) (map (unpacked names) old)
