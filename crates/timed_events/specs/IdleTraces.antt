-- The trace of events with receives of nothing in short silences (own).
use Rattle.std.specs.Prelude.{ℕ, ◌≡◌, ◌+◌, ◌<◌, ◌≤◌, ◌++◌, List, length, Bool}
use Rattle.step_trace.specs.declared.traces.TheConstants.{MAX_STEPS}
use Rattle.step_trace.specs.Traces.{Recorded}
use Rattle.timed_events.specs.declared.events.Event.{Event}
use Rattle.timed_events.specs.declared.events.Clock.{Clock}
use Rattle.timed_events.specs.declared.idle_ticks.IdleTick.{IdleTick}
use Rattle.timed_events.specs.declared.idle_traces.Filling.{Filling}
use Rattle.timed_events.specs.declared.idle_traces.IdleTrace.{IdleTrace}
use Rattle.timed_events.specs.declared.idle_traces.IdleError.{IdleError}
use Rattle.timed_events.specs.declared.idle_traces.IdleError.TheVariants.{Events, TooManySteps}
use Rattle.timed_events.specs.Orders.{IsOrder}
use Rattle.timed_events.specs.Times.{time_ticks}
use Rattle.timed_events.specs.TimedTraces.{IsTraceOf}
use Rattle.timed_events.specs.Spreads.{AreTicks, HavePassed, IsTimedRefusal, last_of, moved_of}
use Rattle.timed_events.specs.IdleTicks.{AreIdle, AreReceives, ticks_of}
use Rattle.timed_events.specs.TickedEvents.{AreTicked}

-- the new list has the events and, behind them, a receive of nothing for each of the idle ticks
pub record IsGrown (events : List Event) (idles : List IdleTick) (new : List Event) : Type 0 where
  pub added : List Event
  pub receives : AreReceives idles added
  pub grown : new ≡ events ++ added

-- The new list has the events and, behind them, a receive of nothing in each of the idle ticks; the trace is that of
-- all.
pub record IsFilled (n : ℕ) (events new : List Event) (ticks : List ℕ) (last : ℕ) (idles : List IdleTick)
    (made : Recorded) : Type 0 where
  pub added : List Event
  pub receives : AreReceives idles added
  pub grown : new ≡ events ++ added
  pub trace : IsTraceOf n (events ++ added) (ticks ++ ticks_of idles) last made

-- No event is refused. The trace has the events in their ticks, and a receive of nothing in the last tick of each
-- silence of at most `limit` ticks. The new list has both. This is how the events moved, and how many receives were
-- added.
pub record IsIdleTimed (spread : Bool) (n : ℕ) (events : List Event) (clock : Clock) (limit : ℕ) (timed : IdleTrace)
    (new : List Event) : Type 0 where
  pub passed : HavePassed spread events clock
  pub ticks : List ℕ
  pub are : AreTicks spread events clock ticks
  pub idles : List IdleTick
  pub idle : AreIdle n events ticks (last_of events clock ticks) limit idles
  pub filled : IsFilled n events new ticks (last_of events clock ticks) idles timed.trace
  pub moved : timed.moved ≡ moved_of (time_ticks events clock) ticks
  pub added : timed.added ≡ length idles

-- `filled` has the events and, behind them, a receive of nothing in the last tick of each silence of at most `limit`
-- ticks; these are its places in the order of the trace's steps: by tick, and within a tick by processor
pub record AreFilledPlaces (spread : Bool) (n : ℕ) (events : List Event) (clock : Clock) (limit : ℕ)
    (filled : List Event) (places : List ℕ) : Type 0 where
  pub ticks : List ℕ
  pub are : AreTicks spread events clock ticks
  pub idles : List IdleTick
  pub idle : AreIdle n events ticks (last_of events clock ticks) limit idles
  pub grown : IsGrown events idles filled
  pub ordered : IsOrder filled (ticks ++ ticks_of idles) places

-- no event is refused, and the events and the receives of nothing are more than a trace may have steps
pub record AreTooMany (spread : Bool) (n : ℕ) (events : List Event) (clock : Clock) (limit : ℕ) : Type 0 where
  pub passed : HavePassed spread events clock
  pub ticks : List ℕ
  pub are : AreTicks spread events clock ticks
  pub idles : List IdleTick
  pub idle : AreIdle n events ticks (last_of events clock ticks) limit idles
  pub many : MAX_STEPS < length events + length idles

-- why there is no trace of events with receives of nothing; or out of memory
abbrev pub IsIdleRefusal : Bool → ℕ → List Event → Clock → ℕ → IdleError → Type 0
IsIdleRefusal spread n events clock limit (Events why) = IsTimedRefusal spread events clock why
IsIdleRefusal spread n events clock limit TooManySteps = AreTooMany spread n events clock limit

-- No event is refused; these are the ticks of the events and of the receives of nothing, of which
-- there are no more than a trace may have steps.
pub record IsFilling (spread : Bool) (n : ℕ) (events : List Event) (clock : Clock) (limit : ℕ)
    (filling : Filling) : Type 0 where
  pub ticked : AreTicked spread events clock filling.ticked
  pub idle : AreIdle n events filling.ticked.ticks.items filling.ticked.last limit filling.idles.items
  pub few : length events + length filling.idles.items ≤ MAX_STEPS
