-- Events of a log that have passed all tests, and the trace that is made of them.
use Rattle.std.specs.Prelude.{ℕ, List, Bool, Option, Some, None, ◌≡◌}
use Rattle.timed_events.specs.declared.events.Event.{Event}
use Rattle.timed_events.specs.declared.events.Clock.{Clock}
use Rattle.timed_events.specs.IdleTraces.{IsFilling, AreFilledPlaces, IsIdleRefusal, IsIdleTimed}
use Rattle.timed_events.specs.TickedEvents.{AreTicked}
use Rattle.event_log.specs.declared.log_traces.PassedEvents.{PassedEvents}
use Rattle.event_log.specs.declared.log_traces.PassedEvents.TheVariants as passed
use Rattle.timed_events.specs.declared.idle_traces.IdleError.{IdleError}
use Rattle.timed_events.specs.declared.idle_traces.IdleError.TheVariants as filled
use Rattle.timed_events.specs.declared.spread_traces.Moved.{Moved}
use Rattle.timed_events.specs.Spreads.{AreStepPlaces, IsTimed, IsTimedRefusal}
use Rattle.step_trace.specs.Traces.{Recorded}
use Rattle.event_log.specs.declared.imports.IdleReceives.{IdleReceives}

-- No event is refused, nor are there too many receives of nothing, if silences of at most so many ticks get some. These
-- are the ticks of both.
abbrev pub HavePassed : Option ℕ → Bool → ℕ → List Event → Clock → PassedEvents → Type 0
HavePassed None spread n events clock (passed.Plain ticked) = AreTicked spread events clock ticked
HavePassed (Some limit) spread n events clock (passed.Filled filling) = IsFilling spread n events clock limit filling
HavePassed limit spread n events clock other = ⊥

-- the trace is that of the events, with receives of nothing in silences of at most so many ticks, and this is how many
pub record IsFilledWith (limit : ℕ) (spread : Bool) (n : ℕ) (events : List Event) (clock : Clock) (trace : Recorded)
    (moved : Moved) (idle : Option IdleReceives) : Type 0 where
  pub new : List Event
  pub added : ℕ
  pub timed : IsIdleTimed spread n events clock limit (record { trace = trace; moved = moved; added = added }) new
  pub told : idle ≡ Some (record { count = added; limit = limit })

-- the trace of the events, by how many ticks a silence that gets a receive of nothing has at most, if any gets one
abbrev pub IsMadeBy : Option ℕ → Bool → ℕ → List Event → Clock → Recorded → Moved → Option IdleReceives → Type 0
IsMadeBy None spread n events clock trace moved idle =
    IsTimed spread n events clock (record { trace = trace; moved = moved }) × (idle ≡ None)
IsMadeBy (Some limit) spread n events clock trace moved idle = IsFilledWith limit spread n events clock trace moved idle

-- `filled` has the events and, behind them, the receives of nothing that are added, if any; these are its places in the
-- order of the steps of their trace
abbrev pub ArePlacedBy : Option ℕ → Bool → ℕ → List Event → Clock → List Event → List ℕ → Type 0
ArePlacedBy None spread n events clock filled places = (filled ≡ events) × AreStepPlaces spread events clock places
ArePlacedBy (Some limit) spread n events clock filled places = AreFilledPlaces spread n events clock limit filled places

-- why there is none
abbrev pub IsUnmadeFor : Option ℕ → Bool → ℕ → List Event → Clock → IdleError → Type 0
IsUnmadeFor None spread n events clock (filled.Events why) = IsTimedRefusal spread events clock why
IsUnmadeFor None spread n events clock filled.TooManySteps = ⊥
IsUnmadeFor (Some limit) spread n events clock why = IsIdleRefusal spread n events clock limit why
