-- What makes events a trace: each message is received by the one to whom it was sent, once, in a later tick. No
-- processor has two events in a tick (own).
use Rattle.std.specs.Prelude.{ℕ, ◌≡◌, ◌+◌, ◌*◌, ◌-◌, ◌≤◌, ◌<◌, List, [], length, take, Option, Some, None, Bool}
use Rattle.std.specs.Prelude.{◌==◌, ◌||◌, ◌&&◌, not, nat_lt, int_lt, pos, slice_get, slice_index_or, if◌then◌else◌, ℤ}
use Rattle.std.specs.List.{list_any}
use Rattle.std.specs.Option.{option_or, option_map_or}
use Rattle.std.specs.Prelude.{option_map, true, false}
use Rattle.step_trace.specs.declared.configurations.TheConstants.{MAX_PROCESSORS}
use Rattle.timed_events.specs.declared.events.Event.{Event}
use Rattle.timed_events.specs.declared.events.EventAct.{EventAct}
use Rattle.timed_events.specs.declared.events.EventAct.TheVariants.{Send, Receive}
use Rattle.timed_events.specs.declared.events.Hint.{Hint}
use Rattle.timed_events.specs.declared.events.Hint.TheVariants.{ShorterTick, Spread}
use Rattle.timed_events.specs.declared.events.EventError.{EventError}
use Rattle.timed_events.specs.declared.events.EventError.TheVariants.{NeverSent, WrongReceiver, ReceivedBefore}
use Rattle.timed_events.specs.declared.events.EventError.TheVariants.{NotLater, SecondEvent, Memory}
use Rattle.timed_events.specs.Firsts.{first_of, any_below}

-- whether it is a Send to p
abbrev pub sends_to : EventAct → ℕ → Bool
sends_to (Send to) p = to == p
sends_to (Receive messages) p = false

-- whether it is a Send
abbrev pub is_send : EventAct → Bool
is_send (Send to) = true
is_send (Receive messages) = false

-- the messages that it receives
abbrev pub received_in : EventAct → List (Option ℕ)
received_in (Send to) = []
received_in (Receive messages) = messages

-- whether this is message s
abbrev pub is_message : ℕ → Option ℕ → Bool
is_message s None = false
is_message s (Some m) = m == s

-- the processor of an event, its messages and its time, by its place
abbrev pub processor_at : List Event → ℕ → ℕ
processor_at events i = option_map_or (λ e. e.processor) (slice_get events i) 0

abbrev pub messages_at : List Event → ℕ → List (Option ℕ)
messages_at events i = option_map_or (λ e. received_in e.act) (slice_get events i) []

abbrev pub time_at : List Event → ℕ → ℤ
time_at events i = option_map_or (λ e. e.time) (slice_get events i) (pos 0)

-- whether event i sends
abbrev pub sends_at : List Event → ℕ → Bool
sends_at events i = option_map_or (λ e. is_send e.act) (slice_get events i) false

-- whether event s is a Send to p
abbrev pub is_for : List Event → ℕ → ℕ → Bool
is_for events s p = option_map_or (λ e. sends_to e.act p) (slice_get events s) false

-- whether an event before event i received message s
unfoldable pub received_before : List Event → ℕ → ℕ → Bool
received_before events i s = any_below (λ j. list_any (is_message s) (messages_at events j)) i

-- whether an event before event i received message s, or event i among its messages before the one at k
abbrev pub was_received : List Event → ℕ → ℕ → ℕ → Bool
was_received events i k s = received_before events i s || list_any (is_message s) (take k (messages_at events i))

-- what would help against a receive at i no later than the Send at s; nothing does if one processor receives its own
-- message before it sends it
abbrev pub late_hint : List Event → ℕ → ℕ → Option Hint
late_hint events s i =
    if int_lt (time_at events s) (time_at events i) then Some ShorterTick
    else if not (processor_at events s == processor_at events i) then Some Spread
    else if not (int_lt (time_at events i) (time_at events s)) && nat_lt s i then Some Spread
    else None

-- the reason against a message, by a test of which were received before
abbrev pub message_refusal : List Event → List ℕ → (ℕ → Bool) → ℕ → ℕ → Option ℕ → Option EventError
message_refusal events ticks received i k None = Some (NeverSent i k)
message_refusal events ticks received i k (Some s) =
    if is_for events s (processor_at events i) then
    (if received s then Some (ReceivedBefore i k)
    else if nat_lt (slice_index_or ticks s 0) (slice_index_or ticks i 0) then None
    else Some (NotLater i k (late_hint events s i)))
    else Some (WrongReceiver i k)

-- the first reason against the messages of event i
unfoldable pub messages_refusal : List Event → List ℕ → ℕ → Option EventError
messages_refusal events ticks i = first_of
    (λ k. message_refusal events ticks (was_received events i k) i k (slice_index_or (messages_at events i) k None))
    (length (messages_at events i))

-- the reason against a message whatever the ticks, by a test of which were received before
abbrev pub message_fault : List Event → (ℕ → Bool) → ℕ → ℕ → Option ℕ → Option EventError
message_fault events received i k None = Some (NeverSent i k)
message_fault events received i k (Some s) =
    if is_for events s (processor_at events i) then
    (if received s then Some (ReceivedBefore i k)
    else None)
    else Some (WrongReceiver i k)

-- the first such reason against the messages of event i
unfoldable pub message_faults : List Event → ℕ → Option EventError
message_faults events i = first_of
    (λ k. message_fault events (was_received events i k) i k (slice_index_or (messages_at events i) k None))
    (length (messages_at events i))

-- the first such reason against the events, in their order
unfoldable pub first_fault : List Event → Option EventError
first_fault events = first_of (message_faults events) (length events)

-- the moment of a step of p in a tick, as one number: first the tick, then the processor
abbrev pub moment_of : ℕ → ℕ → ℕ
moment_of tick p = tick * MAX_PROCESSORS + (p - 1)

abbrev pub moment_at : List Event → List ℕ → ℕ → ℕ
moment_at events ticks i = moment_of (slice_index_or ticks i 0) (processor_at events i)

-- each event is of a processor of some configuration
abbrev pub AreOfProcessors : List Event → Type 0
AreOfProcessors events = (i : ℕ) → i < length events → (1 ≤ processor_at events i)
    × (processor_at events i ≤ MAX_PROCESSORS)

-- a Send goes to one of n processors
abbrev pub GoesWithin : ℕ → EventAct → Type 0
GoesWithin n (Send to) = (1 ≤ to) × (to ≤ n)
GoesWithin n (Receive messages) = Unit {0}

-- an event is of one of n processors, and goes to one of them if it is a Send
pub record IsMeantAt (events : List Event) (n i : ℕ) : Type 0 where
  pub least : 1 ≤ processor_at events i
  pub most : processor_at events i ≤ n
  pub to : (e : Event) → slice_get events i ≡ Some e → GoesWithin n e.act

-- each event is
abbrev pub AreMeant : List Event → ℕ → Type 0
AreMeant events n = (i : ℕ) → i < length events → IsMeantAt events n i

-- no two events have one moment
abbrev pub HaveOwnMoments : List Event → List ℕ → Type 0
HaveOwnMoments events ticks = (j i : ℕ) → j < i → i < length events
    → ¬ (moment_at events ticks j ≡ moment_at events ticks i)

-- the first event before i at this moment
unfoldable pub earlier_at : List Event → List ℕ → ℕ → ℕ → Option ℕ
earlier_at events ticks i moment = first_of (λ j. if moment_at events ticks j == moment then Some j else None) i

-- what would set two events of one processor apart
abbrev pub apart_hint : List Event → ℕ → ℕ → Option Hint
apart_hint events j i =
    if int_lt (time_at events j) (time_at events i) || int_lt (time_at events i)
    (time_at events j) then Some ShorterTick
    else Some Spread

-- the reason against a second event in a tick
unfoldable pub second_refusal : List Event → List ℕ → ℕ → Option EventError
second_refusal events ticks i = option_map (λ j. SecondEvent i (slice_index_or ticks i 0) (apart_hint events j i))
    (earlier_at events ticks i (moment_at events ticks i))

-- the first reason against event i
abbrev pub event_refusal : List Event → List ℕ → ℕ → Option EventError
event_refusal events ticks i = option_or (messages_refusal events ticks i) (second_refusal events ticks i)

-- the first reason against the events, in their order
unfoldable pub events_refusal : List Event → List ℕ → Option EventError
events_refusal events ticks = first_of (event_refusal events ticks) (length events)

-- the answer is this reason, or out of memory
abbrev pub IsEventRefusal : EventError → Option EventError → Type 0
IsEventRefusal Memory why = Unit {0}
IsEventRefusal e why = why ≡ Some e
