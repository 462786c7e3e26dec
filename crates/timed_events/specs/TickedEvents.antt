-- Events that make a trace, with their ticks (own).
use Rattle.std.specs.Prelude.{ℕ, ◌≡◌, ◌<◌, ◌≤◌, List, length, Bool, None, slice_index}
use Rattle.step_trace.specs.declared.traces.TheConstants.{MAX_TICKS}
use Rattle.timed_events.specs.declared.events.Event.{Event}
use Rattle.timed_events.specs.declared.events.Clock.{Clock}
use Rattle.timed_events.specs.declared.ticked_events.EventTicks.{EventTicks}
use Rattle.timed_events.specs.Times.{time_ticks}
use Rattle.timed_events.specs.Checks.{events_refusal}
use Rattle.timed_events.specs.Orders.{IsOrder}
use Rattle.timed_events.specs.Spreads.{AreTicks, HavePassed, last_of, moved_of}

-- events that pass their tests in ticks from 1 to a last one that a trace may have
pub record AreFit (events : List Event) (ticks : List ℕ) (last : ℕ) : Type 0 where
  pub long : length ticks ≡ length events
  pub passed : events_refusal events ticks ≡ None
  pub first : (i : ℕ) → i < length events → 1 ≤ slice_index ticks i
  pub within : (i : ℕ) → i < length events → slice_index ticks i ≤ last
  pub most : last ≤ MAX_TICKS

-- No event is refused; these are their ticks, the last tick of the trace, how they moved, and their order in it.
pub record AreTicked (spread : Bool) (events : List Event) (clock : Clock) (ticked : EventTicks) : Type 0 where
  pub passed : HavePassed spread events clock
  pub are : AreTicks spread events clock ticked.ticks.items
  pub last : ticked.last ≡ last_of events clock ticked.ticks.items
  pub moved : ticked.moved ≡ moved_of (time_ticks events clock) ticked.ticks.items
  pub fit : AreFit events ticked.ticks.items ticked.last
  pub ordered : IsOrder events ticked.ticks.items ticked.order.items
