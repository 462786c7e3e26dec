-- The traces that are made of one log: without receives of nothing in silences, with one in the last tick of each short
-- silence, as import adds them, and with one in each tick of these silences (own).
use Rattle.std.specs.Prelude.{ℕ, ◌≡◌, ◌<◌, ◌≤◌, List, Bool}
use Rattle.std.specs.List.{All, Contains}
use Rattle.step_trace.specs.Traces.{Recorded}
use Rattle.timed_events.specs.declared.events.Clock.{Clock}
use Rattle.timed_events.specs.declared.events.Event.{Event}
use Rattle.timed_events.specs.declared.idle_ticks.IdleTick.{IdleTick}
use Rattle.timed_events.specs.declared.idle_traces.IdleTrace.{IdleTrace}
use Rattle.timed_events.specs.declared.spread_traces.TimedTrace.{TimedTrace}
use Rattle.timed_events.specs.IdleTicks.{IsIdleEnd}
use Rattle.timed_events.specs.IdleTraces.{IsFilled, IsIdleTimed}
use Rattle.timed_events.specs.Spreads.{AreTicks, HavePassed, IsTimed, last_of}

-- events of n processors, how their times become ticks, and whether they may be spread
pub record Log : Type 0 where
  pub n : ℕ
  pub events : List Event
  pub clock : Clock
  pub spread : Bool

-- tick y is in a short silence of processor p: one that began before y and ends in y or later
pub record IsInShortSilence (events : List Event) (ticks : List ℕ) (last limit p y : ℕ) : Type 0 where
  pub end : ℕ
  pub is : IsIdleEnd events ticks last limit p end
  pub after : is.silence.since < y
  pub until : y ≤ end

-- the tick is in a short silence of one of n processors
pub record IsSilentTick (n : ℕ) (events : List Event) (ticks : List ℕ) (last limit : ℕ) (x : IdleTick) : Type 0 where
  pub least : 1 ≤ x.processor
  pub most : x.processor ≤ n
  pub inside : IsInShortSilence events ticks last limit x.processor x.tick

-- the list has the ticks of the short silences of n processors, each of them and no other
pub record AreSilent (n : ℕ) (events : List Event) (ticks : List ℕ) (last limit : ℕ)
    (polls : List IdleTick) : Type 0 where
  pub each : All (IsSilentTick n events ticks last limit) polls
  pub all : (p y : ℕ) → 1 ≤ p → p ≤ n → IsInShortSilence events ticks last limit p y
      → Contains polls (record { processor = p; tick = y })

-- the trace of the log alone
pub record IsPlain (log : Log) (trace : Recorded) : Type 0 where
  pub timed : TimedTrace
  pub is : IsTimed log.spread log.n log.events log.clock timed
  pub same : trace ≡ timed.trace

-- the trace of the log as import --idle makes it: with a receive of nothing in the last tick of each silence of at most
-- `limit` ticks
pub record IsSparse (log : Log) (limit : ℕ) (trace : Recorded) : Type 0 where
  pub timed : IdleTrace
  pub new : List Event
  pub is : IsIdleTimed log.spread log.n log.events log.clock limit timed new
  pub same : trace ≡ timed.trace

-- the trace of the log with a receive of nothing in each tick of each silence of at most `limit` ticks
pub record IsFull (log : Log) (limit : ℕ) (trace : Recorded) : Type 0 where
  pub passed : HavePassed log.spread log.events log.clock
  pub ticks : List ℕ
  pub are : AreTicks log.spread log.events log.clock ticks
  pub polls : List IdleTick
  pub silent : AreSilent log.n log.events ticks (last_of log.events log.clock ticks) limit polls
  pub new : List Event
  pub filled : IsFilled log.n log.events new ticks (last_of log.events log.clock ticks) polls trace
