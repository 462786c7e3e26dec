-- The refusal of a log for a reason against the events that are left of it.
use Rattle.std.specs.Prelude.{ℕ, ◌≡◌, ◌+◌, List, map, Option, Some, None, MatchBool, ⊤}
use Rattle.timed_events.specs.declared.cause_cycles.Hop.{Hop}
use Rattle.timed_events.specs.declared.events.Event.{Event}
use Rattle.timed_events.specs.declared.events.EventError.TheVariants as refused
use Rattle.timed_events.specs.CauseCycles.{BeginsAtLeast, IsCauseCycle}
use Rattle.timed_events.specs.declared.idle_traces.IdleError.{IdleError}
use Rattle.timed_events.specs.declared.idle_traces.IdleError.TheVariants as filled
use Rattle.event_log.specs.declared.refusals.LogError.{LogError}
use Rattle.event_log.specs.declared.refusals.LogError.TheVariants.{UntilUnfit, TooManyTicks, Cycle, TooManySteps}
use Rattle.event_log.specs.HopLines.{hop_lines}
use Rattle.event_log.specs.Naming.{is_memory}
use Rattle.event_log.specs.EventRefusals.{IsErrorOf, IsIdleErrorOf}
use Rattle.event_log.specs.LogPlaces.{place_in, reason_in, hop_in}

-- The refusal names the first event in a cycle of messages or behind one. It lists the hops of such a cycle by their
-- records, from the least event on.
pub record IsLeftCycleError (text : List ℕ) (nodes : List (List ℕ)) (events left : List Event) (places : List ℕ) (i : ℕ)
    (error : LogError) : Type 0 where
  pub hops : List Hop
  pub cycle : IsCauseCycle left hops
  pub first : BeginsAtLeast hops
  pub is : error ≡ Cycle (place_in places i + 2) (hop_lines text nodes events (map (hop_in places) hops))

-- the refusal of a log for a reason against the events that are left, which are at these places and made of those
abbrev pub IsPlacedErrorOf : List ℕ → List (List ℕ) → List Event → List Event → List ℕ → Option (List (List ℕ))
    → IdleError → LogError → Type 0
IsPlacedErrorOf text nodes events left places parts (filled.Events (refused.Cycle i)) error =
    IsLeftCycleError text nodes events left places i error
IsPlacedErrorOf text nodes events left places parts (filled.Events why) error =
    IsErrorOf text nodes events (reason_in events places parts why) error
IsPlacedErrorOf text nodes events left places parts filled.TooManySteps error = error ≡ TooManySteps

-- the refusal of a log for a reason that is against none of its events
abbrev pub IsToldAtOnce : IdleError → LogError → Type 0
IsToldAtOnce filled.TooManySteps error = error ≡ TooManySteps
IsToldAtOnce (filled.Events refused.UntilTooEarly) error = error ≡ UntilUnfit
IsToldAtOnce (filled.Events refused.TooManyTicks) error = error ≡ TooManyTicks
IsToldAtOnce (filled.Events why) error = ⊥

abbrev pub IsLeftErrorOf : List ℕ → List (List ℕ) → List Event → List Event → Option (List ℕ) → Option (List (List ℕ))
    → IdleError → LogError → Type 0
IsLeftErrorOf text nodes events left None parts why error = IsIdleErrorOf text nodes events why error
IsLeftErrorOf text nodes events left (Some places) parts why error =
    IsPlacedErrorOf text nodes events left places parts why error

-- the same, or out of memory
abbrev pub IsPlacedErrorUnlessMemory : List ℕ → List (List ℕ) → List Event → List Event → List ℕ
    → Option (List (List ℕ)) → IdleError → LogError → Type 0
IsPlacedErrorUnlessMemory text nodes events left places parts why error =
    MatchBool (is_memory error) ⊤ (IsPlacedErrorOf text nodes events left places parts why error)
