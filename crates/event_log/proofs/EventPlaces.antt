-- A reason against events names one of them.
use Rattle.std.proofs.Common.{◌≡◌, ℕ, zero, suc, ◌<◌, arith, List, length, Option, Some, None, Bool, true, false, cond, refl, sym, subst}
use Rattle.std.specs.Prelude.{int_lt, nat_lt, option_map, slice_index_or, IfSome}
use Rattle.std.specs.Option.{option_or}
use Rattle.timed_events.specs.declared.events.Event.{Event}
use Rattle.timed_events.specs.declared.events.Clock.{Clock}
use Rattle.timed_events.specs.declared.events.EventError.{EventError}
use Rattle.timed_events.specs.declared.events.EventError.TheVariants as refused
use Rattle.timed_events.specs.Firsts.{first_of}
use Rattle.timed_events.specs.Checks.{earlier_at, event_refusal, events_refusal, first_fault, is_for, message_fault}
use Rattle.timed_events.specs.Checks.{message_faults, message_refusal, messages_at, messages_refusal, moment_at}
use Rattle.timed_events.specs.Checks.{processor_at, second_refusal, was_received}
use Rattle.step_trace.specs.declared.traces.TheConstants.{MAX_TICKS}
use Rattle.timed_events.specs.Times.{end_time, greatest_time, last_tick, time_ticks, times_refusal}
use Rattle.timed_events.specs.Spreads.{IsAfterTimes, IsCausalRefusal, IsSpreadRefusal, IsTimedRefusal}
use Rattle.event_log.specs.EventRefusals.{event_place}

-- a reason, if there is one, names the event at this place
abbrev Names : ℕ → Option EventError → Type 0
Names i why = IfSome why (λ e. event_place e ≡ i)

-- one of so many, or none
abbrev Within : ℕ → Option EventError → Type 0
Within n why = IfSome why (λ e. event_place e < n)

names-if : (i : ℕ) (t : Bool) (a b : Option EventError) → Names i a → Names i b → Names i (cond t a b)
names-if i true a b h k = h
names-if i false a b h k = k

names-or : (i : ℕ) (a b : Option EventError) → Names i a → Names i b → Names i (option_or a b)
names-or i (Some a) b h k = h
names-or i None b h k = k

names-first : (i : ℕ) (f : ℕ → Option EventError) (n : ℕ) → ((k : ℕ) → Names i (f k)) → Names i (first_of f n)
names-first i f zero h = tt
names-first i f (suc n) h = names-or i (first_of f n) (f n) (names-first i f n h) (h n)

names-map : (i : ℕ) (f : ℕ → EventError) (o : Option ℕ) → ((j : ℕ) → event_place (f j) ≡ i) → Names i (option_map f o)
names-map i f None h = tt
names-map i f (Some j) h = h j

message-names : (events : List Event) (ticks : List ℕ) (received : ℕ → Bool) (i k : ℕ) (message : Option ℕ)
    → Names i (message_refusal events ticks received i k message)
message-names events ticks received i k None = refl
message-names events ticks received i k (Some s) =
    names-if i (is_for events s (processor_at events i)) _ _
    (names-if i (received s) _ _ refl (names-if i (nat_lt (slice_index_or ticks s 0) (slice_index_or ticks i 0)) _ _ tt refl))
    refl

messages-name : (events : List Event) (ticks : List ℕ) (i : ℕ) → Names i (messages_refusal events ticks i)
unfolding messages_refusal
messages-name events ticks i = names-first i _ (length (messages_at events i))
    (λ k. message-names events ticks (was_received events i k) i k (slice_index_or (messages_at events i) k None))

second-names : (events : List Event) (ticks : List ℕ) (i : ℕ) → Names i (second_refusal events ticks i)
unfolding second_refusal
second-names events ticks i = names-map i _ (earlier_at events ticks i (moment_at events ticks i)) (λ j. refl)

event-names : (events : List Event) (ticks : List ℕ) (i : ℕ) → Names i (event_refusal events ticks i)
event-names events ticks i = names-or i (messages_refusal events ticks i)
    (second_refusal events ticks i) (messages-name events ticks i) (second-names events ticks i)

fault-names : (events : List Event) (received : ℕ → Bool) (i k : ℕ) (message : Option ℕ)
    → Names i (message_fault events received i k message)
fault-names events received i k None = refl
fault-names events received i k (Some s) = names-if i
    (is_for events s (processor_at events i)) _ _ (names-if i (received s) _ _ refl tt) refl

faults-name : (events : List Event) (i : ℕ) → Names i (message_faults events i)
unfolding message_faults
faults-name events i = names-first i _ (length (messages_at events i))
    (λ k. fault-names events (was_received events i k) i k (slice_index_or (messages_at events i) k None))

within-or : (n : ℕ) (a b : Option EventError) → Within n a → Within n b → Within n (option_or a b)
within-or n (Some a) b h k = h
within-or n None b h k = k

within-next : (n : ℕ) (a : Option EventError) → Within n a → Within (suc n) a
within-next n None h = tt
within-next n (Some e) h = omega (arith, h)

within-named : (n : ℕ) (a : Option EventError) → Names n a → Within (suc n) a
within-named n None h = tt
within-named n (Some e) h = omega (arith, h)

within-first : (f : ℕ → Option EventError) (n : ℕ) → ((k : ℕ) → Names k (f k)) → Within n (first_of f n)
within-first f zero h = tt
within-first f (suc n) h = within-or (suc n) (first_of f n)
    (f n) (within-next n (first_of f n) (within-first f n h)) (within-named n (f n) (h n))

events-within : (events : List Event) (ticks : List ℕ) → Within (length events) (events_refusal events ticks)
unfolding events_refusal
events-within events ticks = within-first (event_refusal events ticks) (length events) (event-names events ticks)

faults-within : (events : List Event) → Within (length events) (first_fault events)
unfolding first_fault
faults-within events = within-first (message_faults events) (length events) (faults-name events)

within-if : (n : ℕ) (t : Bool) (a b : Option EventError) → Within n a → Within n b → Within n (cond t a b)
within-if n true a b h k = h
within-if n false a b h k = k

times-within : (events : List Event) (clock : Clock) → 0 < length events → Within (length events) (times_refusal events clock)
times-within events clock some =
    within-if (length events) (int_lt (end_time events clock) (greatest_time events)) _ _ some
    (within-if (length events) (nat_lt MAX_TICKS (last_tick events clock)) _ _ some tt)

all-within : (events : List Event) (clock : Clock) (ticks : List ℕ) (why : EventError) → 0 < length events
    → Some why ≡ option_or (times_refusal events clock) (events_refusal events ticks) → event_place why < length events
all-within events clock ticks why some e = subst (Within (length events)) (sym e) (within-or (length events)
    (times_refusal events clock) (events_refusal events ticks) (times-within events clock some) (events-within events ticks))

pub fault-within : (events : List Event) (why : EventError) → first_fault events ≡ Some why → event_place why < length events
fault-within events why h = subst (Within (length events)) h (faults-within events)

causal-within : (events : List Event) (why : EventError) → IsCausalRefusal events (Some why) → event_place why < length events
causal-within events (refused.Cycle i) h = h.1.inside
causal-within events refused.UntilTooEarly h = fault-within events refused.UntilTooEarly h
causal-within events refused.TooManyTicks h = fault-within events refused.TooManyTicks h
causal-within events (refused.NeverSent i k) h = fault-within events (refused.NeverSent i k) h
causal-within events (refused.WrongReceiver i k) h = fault-within events (refused.WrongReceiver i k) h
causal-within events (refused.ReceivedBefore i k) h = fault-within events (refused.ReceivedBefore i k) h
causal-within events (refused.NotLater i k hint) h = fault-within events (refused.NotLater i k hint) h
causal-within events (refused.SecondEvent i tick hint) h = fault-within events (refused.SecondEvent i tick hint) h
causal-within events refused.Memory h = fault-within events refused.Memory h

after-times-within : (events : List Event) (times : Option EventError) (why : EventError)
    → Within (length events) times → IsAfterTimes times events (Some why) → event_place why < length events
after-times-within events (Some reason) why w h = subst (Within (length events)) (sym h) w
after-times-within events None why w h = causal-within events why h

spread-within : (events : List Event) (clock : Clock) (why : EventError)
    → 0 < length events → IsSpreadRefusal events clock (Some why) → event_place why < length events
spread-within events clock why some h = after-times-within events (times_refusal events clock) why (times-within events clock some) h

-- a reason for which there is no trace names one of the events, or none
pub place-within : (spread : Bool) (events : List Event) (clock : Clock) (why : EventError)
    → 0 < length events → IsTimedRefusal spread events clock why → event_place why < length events
place-within spread events clock refused.UntilTooEarly some h = some
place-within spread events clock refused.TooManyTicks some h = some
place-within spread events clock refused.Memory some h = some
place-within false events clock why some h = all-within events clock (time_ticks events clock) why some (sym h)
place-within true events clock why some h = spread-within events clock why some h
