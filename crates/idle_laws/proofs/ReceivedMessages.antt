-- A message is received by the processor to which it was sent.
use Rattle.std.proofs.Common.{ℕ, ◌≡◌, ◌<◌, Bool, true, false, List, length, Contains, Option, Some, None, sym, ◌∙◌, subst}
use Rattle.std.proofs.lemmas.List.{get_or_default}
use Rattle.std.proofs.lemmas.Option.{same_Some}
use Rattle.idle_laws.proofs.Common.{Event, Clock, HavePassed, IsAfterTimes, time_ticks, times_refusal, or_none}
use Rattle.timed_events.specs.declared.events.EventError.{EventError}
use Rattle.timed_events.specs.Checks.{events_refusal, first_fault, is_for, messages_at, processor_at}
use Rattle.timed_events.proofs.FittingEvents.{named-may, names-message}
use Rattle.timed_events.proofs.MessageFaults.{received-by}

-- nothing is against the messages of events of which none is refused
received-in_time : (events : List Event) (ticks : List ℕ) (k i : ℕ) → events_refusal events ticks ≡ None
    → k < length events → Contains (messages_at events k) (Some i) → is_for events i (processor_at events k) ≡ true
received-in_time events ticks k i passed inside c =
    let m = named-may events ticks k c.0 passed inside c.1 in
    let same = same_Some i m.0 (sym c.2 ∙ get_or_default (messages_at events k) c.0 (Some i) None c.1 ∙ m.1) in
    subst (λ s. is_for events s (processor_at events k) ≡ true) (sym same) m.2.for

after-passed : (why : Option EventError) (events : List Event) → IsAfterTimes why events None → first_fault events ≡ None
after-passed (Some reason) events h = absurd (cc)
after-passed None events h = h.0

pub received-for : (spread : Bool) (events : List Event) (clock : Clock) (k i : ℕ) → HavePassed spread events clock
    → k < length events → i < length events → Contains (messages_at events k) (Some i)
    → is_for events i (processor_at events k) ≡ true
received-for false events clock k i passed inside sent c = received-in_time events
    (time_ticks events clock) k i (or_none (times_refusal events clock) (events_refusal events (time_ticks events clock)) passed).1 inside c
received-for true events clock k i passed inside sent c =
    received-by events (after-passed (times_refusal events clock) events passed) k i inside (record {
      inside = sent;
      taken = names-message (messages_at events k) c.0 i c.1 (sym (get_or_default (messages_at events k) c.0 (Some i) None c.1) ∙ c.2);
    })
