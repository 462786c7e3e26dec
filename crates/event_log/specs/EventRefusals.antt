-- The refusal of a log for a reason against its events.
use Rattle.std.specs.Prelude.{ℕ, ◌≡◌, ◌+◌, List, None, slice_get, slice_index_or, MatchBool, ⊤}
use Rattle.std.specs.Option.{option_map_or}
use Rattle.timed_events.specs.declared.cause_cycles.Hop.{Hop}
use Rattle.timed_events.specs.declared.events.Event.{Event}
use Rattle.timed_events.specs.declared.events.EventError.{EventError}
use Rattle.timed_events.specs.declared.events.EventError.TheVariants as refused
use Rattle.timed_events.specs.Briefs.{sent_to}
use Rattle.timed_events.specs.Causes.{IsFirstUnplaceable}
use Rattle.timed_events.specs.Checks.{first_fault, processor_at, messages_at}
use Rattle.timed_events.specs.CauseCycles.{BeginsAtLeast, IsCauseCycle}
use Rattle.timed_events.specs.declared.idle_traces.IdleError.{IdleError}
use Rattle.timed_events.specs.declared.idle_traces.IdleError.TheVariants as filled
use Rattle.event_log.specs.declared.refusals.LogError.{LogError}
use Rattle.event_log.specs.declared.refusals.LogError.TheVariants.{UntilUnfit, TooManyTicks, NeverSent, WrongReceiver}
use Rattle.event_log.specs.declared.refusals.LogError.TheVariants.{ReceivedBefore, NotLater, SecondEvent, Cycle}
use Rattle.event_log.specs.declared.refusals.LogError.TheVariants.{TooManySteps, Memory}
use Rattle.event_log.specs.HopLines.{hop_lines}
use Rattle.event_log.specs.Naming.{is_memory}
use Rattle.event_log.specs.ToldNames.{message_name, node_name}

-- the processor to which the event at a place sends; 0 if it doesn't
abbrev pub receiver_at : List Event → ℕ → ℕ
receiver_at events s = option_map_or (λ e. sent_to e.act) (slice_get events s) 0

-- the processor to which message k of the event at place i was sent
abbrev pub receiver_of : List Event → ℕ → ℕ → ℕ
receiver_of events i k = option_map_or (receiver_at events) (slice_index_or (messages_at events i) k None) 0

-- the place of the event that a reason names; 0 if it names none
abbrev pub event_place : EventError → ℕ
event_place refused.UntilTooEarly = 0
event_place refused.TooManyTicks = 0
event_place (refused.NeverSent i k) = i
event_place (refused.WrongReceiver i k) = i
event_place (refused.ReceivedBefore i k) = i
event_place (refused.NotLater i k hint) = i
event_place (refused.SecondEvent i tick hint) = i
event_place (refused.Cycle i) = i
event_place refused.Memory = 0

-- the same, if the reason may also be too many steps
abbrev pub idle_place : IdleError → ℕ
idle_place (filled.Events why) = event_place why
idle_place filled.TooManySteps = 0

-- nothing is against the messages of the events, and event i is the first in a cycle of causes or behind one
abbrev pub IsBehindCycle : List Event → ℕ → Type 0
IsBehindCycle events i = (first_fault events ≡ None) × IsFirstUnplaceable events i

-- The refusal names the first event in a cycle of messages or behind one. It lists the hops of such a cycle, from the
-- least of their events on. The record of the event at place i is number i + 2.
pub record IsCycleError (text : List ℕ) (nodes : List (List ℕ)) (events : List Event) (i : ℕ)
    (error : LogError) : Type 0 where
  pub hops : List Hop
  pub cycle : IsCauseCycle events hops
  pub first : BeginsAtLeast hops
  pub is : error ≡ Cycle (i + 2) (hop_lines text nodes events hops)

-- the refusal of a log for a reason against its events
abbrev pub IsErrorOf : List ℕ → List (List ℕ) → List Event → EventError → LogError → Type 0
IsErrorOf text nodes events refused.UntilTooEarly error = error ≡ UntilUnfit
IsErrorOf text nodes events refused.TooManyTicks error = error ≡ TooManyTicks
IsErrorOf text nodes events (refused.NeverSent i k) error = error ≡ NeverSent (i + 2) (message_name text i k)
IsErrorOf text nodes events (refused.WrongReceiver i k) error =
    error ≡ WrongReceiver (i + 2) (message_name text i k) (node_name nodes (receiver_of events i k))
IsErrorOf text nodes events (refused.ReceivedBefore i k) error = error ≡ ReceivedBefore (i + 2) (message_name text i k)
IsErrorOf text nodes events (refused.NotLater i k hint) error = error ≡ NotLater (i + 2) (message_name text i k) hint
IsErrorOf text nodes events (refused.SecondEvent i tick hint) error =
    error ≡ SecondEvent (i + 2) (node_name nodes (processor_at events i)) tick hint
IsErrorOf text nodes events (refused.Cycle i) error = IsCycleError text nodes events i error
IsErrorOf text nodes events refused.Memory error = error ≡ Memory

-- the same, or out of memory
abbrev pub IsErrorUnlessMemory : List ℕ → List (List ℕ) → List Event → EventError → LogError → Type 0
IsErrorUnlessMemory text nodes events why error = MatchBool (is_memory error) ⊤ (IsErrorOf text nodes events why error)

-- the refusal of a log for a reason against its events and the receives of nothing
abbrev pub IsIdleErrorOf : List ℕ → List (List ℕ) → List Event → IdleError → LogError → Type 0
IsIdleErrorOf text nodes events (filled.Events why) error = IsErrorOf text nodes events why error
IsIdleErrorOf text nodes events filled.TooManySteps error = error ≡ TooManySteps

-- the same, or out of memory
abbrev pub IsIdleErrorUnlessMemory : List ℕ → List (List ℕ) → List Event → IdleError → LogError → Type 0
IsIdleErrorUnlessMemory text nodes events why error =
    MatchBool (is_memory error) ⊤ (IsIdleErrorOf text nodes events why error)
