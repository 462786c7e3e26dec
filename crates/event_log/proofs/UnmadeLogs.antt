-- The events of an accepted log, and what is known of a reason for which they make no trace.
use Rattle.std.proofs.Common.{ℕ, ◌≡◌, ◌<◌, ◌≤◌, Bool, List, length, Option, Some, None, subst, arith}
use Rattle.std.proofs.lemmas.List.{length-map}
use Rattle.timed_events.specs.declared.events.Event.{Event}
use Rattle.timed_events.specs.declared.events.Clock.{Clock}
use Rattle.timed_events.specs.declared.events.EventError.TheVariants as refused
use Rattle.timed_events.specs.declared.idle_traces.IdleError.{IdleError}
use Rattle.timed_events.specs.declared.idle_traces.IdleError.TheVariants as filled
use Rattle.timed_events.specs.Checks.{AreMeant, AreOfProcessors}
use Rattle.timed_events.proofs.SpreadTraces.{meant-processors}
use Rattle.event_log.specs.declared.logs.NamedEvents.{NamedEvents}
use Rattle.event_log.specs.declared.reading.TheConstants.{MAX_EVENTS}
use Rattle.event_log.specs.Events.{seen}
use Rattle.event_log.specs.EventRefusals.{IsBehindCycle, idle_place}
use Rattle.event_log.specs.LogTraces.{IsUnmadeFor}
use Rattle.event_log.specs.Logs.{seen_log}
use Rattle.event_log.specs.SoundLogs.{IsSound}
use Rattle.event_log.proofs.EventPlaces.{place-within}
use Rattle.event_log.proofs.LogCycles.{behind-cycle}
use Rattle.event_log.proofs.MeantEvents.{are-meant}

module _ (log : NamedEvents) (sound : IsSound (seen_log log)) where
  pub some-events : 0 < length log.events.items
  some-events = let same = length-map log.events.items seen in let some = sound.some in omega (arith, some, same)

  pub few-events : length log.events.items ≤ MAX_EVENTS
  few-events = let same = length-map log.events.items seen in let few = sound.few_events in omega (arith, few, same)

  pub meant-events : AreMeant log.events.items (length log.nodes)
  meant-events = are-meant (length log.nodes) log.events.items sound.within

  pub processors-events : AreOfProcessors log.events.items
  processors-events = meant-processors (length log.nodes) log.events.items sound.few_nodes meant-events

-- the reason names one of the events, or none
pub unmade-place : (limit : Option ℕ) (spread : Bool) (n : ℕ) (events : List Event) (clock : Clock) (why : IdleError)
    → 0 < length events → length events ≤ MAX_EVENTS → IsUnmadeFor limit spread n events clock why
    → idle_place why < MAX_EVENTS
unmade-place None spread n events clock (filled.Events why) some few h =
    let lt = place-within spread events clock why some h in omega (arith, lt, few)
unmade-place None spread n events clock filled.TooManySteps some few h = absurd h
unmade-place (Some limit) spread n events clock (filled.Events why) some few h =
    let lt = place-within spread events clock why some h in omega (arith, lt, few)
unmade-place (Some limit) spread n events clock filled.TooManySteps some few h = omega (arith, some, few)

behind-unmade : (limit : Option ℕ) (spread : Bool) (n : ℕ) (events : List Event) (clock : Clock) (i : ℕ)
    → IsUnmadeFor limit spread n events clock (filled.Events (refused.Cycle i)) → IsBehindCycle events i
behind-unmade None spread n events clock i h = behind-cycle spread events clock i h
behind-unmade (Some limit) spread n events clock i h = behind-cycle spread events clock i h

-- if it is a cycle, nothing is against their messages
pub unmade-behind : (limit : Option ℕ) (spread : Bool) (n : ℕ) (events : List Event) (clock : Clock) (why : IdleError)
    → IsUnmadeFor limit spread n events clock why → (i : ℕ) → why ≡ filled.Events (refused.Cycle i)
    → IsBehindCycle events i
unmade-behind limit spread n events clock why h i e =
    behind-unmade limit spread n events clock i (subst (λ w. IsUnmadeFor limit spread n events clock w) e h)
