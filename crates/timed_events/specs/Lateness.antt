-- Messages that are received no later than they are sent, by the times of the events (own).
use Rattle.std.specs.Prelude.{List, length, map, fold, Option, Some, None, Bool, not, nat_lt, int_lt, if◌then◌else◌}
use Rattle.std.proofs.Common.{◌-ℤ◌}
use Rattle.std.specs.Int.RustNames.{unsigned_abs}
use Rattle.std.specs.List.{filter}
use Rattle.timed_events.specs.declared.cause_cycles.Hop.{Hop}
use Rattle.timed_events.specs.declared.events.Event.{Event}
use Rattle.timed_events.specs.declared.lateness.LateMessage.{LateMessage}
use Rattle.timed_events.specs.declared.lateness.Lateness.{Lateness}
use Rattle.timed_events.specs.Checks.{time_at}
use Rattle.timed_events.specs.Received.{hops_of}

-- whether a message is received no later than it is sent
abbrev pub is_late : List Event → Hop → Bool
is_late events hop = not (int_lt (time_at events hop.message) (time_at events hop.event))

-- such a message, with how long after it is received it is sent
abbrev pub late_message : List Event → Hop → LateMessage
late_message events hop = record {
  event = hop.event;
  message = hop.message;
  by = unsigned_abs (time_at events hop.message -ℤ time_at events hop.event);
}

-- the one of two messages that is sent longer after it is received, the first if both are so long; at first there is
-- none
abbrev pub worse : Option LateMessage → LateMessage → LateMessage
worse None late = late
worse (Some worst) late = if nat_lt worst.by late.by then late else worst

-- how many of these messages are received no later than they are sent, and the first of those that are sent the longest
-- after
abbrev pub lateness_among : List Event → List Hop → Lateness
lateness_among events hops = record {
  messages = length (filter (is_late events) hops);
  worst = fold (λ worst late. Some (worse worst late)) None (map (late_message events) (filter (is_late events) hops));
}

-- the same of all messages that the events received
abbrev pub lateness_of : List Event → Lateness
lateness_of events = lateness_among events (hops_of events)
