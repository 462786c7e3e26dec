-- If events are refused for a cycle, nothing is against their messages.
use Rattle.std.proofs.Common.{◌≡◌, ℕ, zero, suc, List, length, Option, Some, None, Bool, true, false, cond, subst, sym}
use Rattle.std.specs.Prelude.{⊤, int_lt, nat_lt, option_map, slice_index_or}
use Rattle.std.specs.Option.{option_or}
use Rattle.step_trace.specs.declared.traces.TheConstants.{MAX_TICKS}
use Rattle.timed_events.specs.declared.events.Event.{Event}
use Rattle.timed_events.specs.declared.events.Clock.{Clock}
use Rattle.timed_events.specs.declared.events.EventError.{EventError}
use Rattle.timed_events.specs.declared.events.EventError.TheVariants as refused
use Rattle.timed_events.specs.Firsts.{first_of}
use Rattle.timed_events.specs.Checks.{earlier_at, event_refusal, events_refusal, first_fault, is_for, message_fault}
use Rattle.timed_events.specs.Checks.{message_faults, message_refusal, messages_at, messages_refusal, moment_at}
use Rattle.timed_events.specs.Checks.{processor_at, second_refusal, was_received}
use Rattle.timed_events.specs.Times.{end_time, greatest_time, last_tick, time_ticks, times_refusal}
use Rattle.timed_events.specs.Spreads.{IsAfterTimes, IsTimedRefusal}
use Rattle.event_log.specs.EventRefusals.{IsBehindCycle}

-- a reason, if there is one, is no cycle
abbrev NoCycle : Option EventError → Type 0
NoCycle (Some (refused.Cycle i)) = ⊥
NoCycle why = ⊤

no-if : (t : Bool) (a b : Option EventError) → NoCycle a → NoCycle b → NoCycle (cond t a b)
no-if true a b h k = h
no-if false a b h k = k

no-or : (a b : Option EventError) → NoCycle a → NoCycle b → NoCycle (option_or a b)
no-or (Some a) b h k = h
no-or None b h k = k

no-first : (f : ℕ → Option EventError) (n : ℕ) → ((k : ℕ) → NoCycle (f k)) → NoCycle (first_of f n)
no-first f zero h = tt
no-first f (suc n) h = no-or (first_of f n) (f n) (no-first f n h) (h n)

no-map : (f : ℕ → EventError) (o : Option ℕ) → ((j : ℕ) → NoCycle (Some (f j))) → NoCycle (option_map f o)
no-map f None h = tt
no-map f (Some j) h = h j

message-no : (events : List Event) (ticks : List ℕ) (received : ℕ → Bool) (i k : ℕ) (message : Option ℕ)
    → NoCycle (message_refusal events ticks received i k message)
message-no events ticks received i k None = tt
message-no events ticks received i k (Some s) =
    no-if (is_for events s (processor_at events i)) _ _
    (no-if (received s) _ _ tt (no-if (nat_lt (slice_index_or ticks s 0) (slice_index_or ticks i 0)) _ _ tt tt))
    tt

event-no : (events : List Event) (ticks : List ℕ) (i : ℕ) → NoCycle (event_refusal events ticks i)
unfolding messages_refusal second_refusal
event-no events ticks i = no-or (messages_refusal events ticks i) (second_refusal events ticks i)
    (no-first _ (length (messages_at events i)) (λ k. message-no events ticks (was_received events i k) i k
    (slice_index_or (messages_at events i) k None))) (no-map _ (earlier_at events ticks i (moment_at events ticks i)) (λ j. tt))

events-no : (events : List Event) (ticks : List ℕ) → NoCycle (events_refusal events ticks)
unfolding events_refusal
events-no events ticks = no-first (event_refusal events ticks) (length events) (event-no events ticks)

fault-no : (events : List Event) (received : ℕ → Bool) (i k : ℕ) (message : Option ℕ) → NoCycle (message_fault events received i k message)
fault-no events received i k None = tt
fault-no events received i k (Some s) = no-if (is_for events s (processor_at events i)) _ _ (no-if (received s) _ _ tt tt) tt

faults-no : (events : List Event) (i : ℕ) → NoCycle (message_faults events i)
unfolding message_faults
faults-no events i = no-first _ (length (messages_at events i))
    (λ k. fault-no events (was_received events i k) i k (slice_index_or (messages_at events i) k None))

first-no : (events : List Event) → NoCycle (first_fault events)
unfolding first_fault
first-no events = no-first (message_faults events) (length events) (faults-no events)

-- no fault of a message is a cycle
pub fault-behind : (events : List Event) (i : ℕ) → first_fault events ≡ Some (refused.Cycle i) → IsBehindCycle events i
fault-behind events i h = absurd (subst NoCycle h (first-no events))

times-no : (events : List Event) (clock : Clock) → NoCycle (times_refusal events clock)
times-no events clock =
    no-if (int_lt (end_time events clock) (greatest_time events)) _ _ tt
    (no-if (nat_lt MAX_TICKS (last_tick events clock)) _ _ tt tt)

behind-times : (events : List Event) (i : ℕ) (times : Option EventError)
    → NoCycle times → IsAfterTimes times events (Some (refused.Cycle i)) → IsBehindCycle events i
behind-times events i (Some reason) n h = absurd (subst NoCycle (sym h) n)
behind-times events i None n h = h

pub behind-cycle : (spread : Bool) (events : List Event) (clock : Clock) (i : ℕ)
    → IsTimedRefusal spread events clock (refused.Cycle i) → IsBehindCycle events i
behind-cycle false events clock i h = absurd (subst NoCycle h (no-or (times_refusal events clock)
    (events_refusal events (time_ticks events clock)) (times-no events clock) (events-no events (time_ticks events clock))))
behind-cycle true events clock i h = behind-times events i (times_refusal events clock) (times-no events clock) h
