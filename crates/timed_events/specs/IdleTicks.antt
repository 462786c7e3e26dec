-- The ticks in which short silences of processors end, and events with a receive of nothing in each (own).
use Rattle.std.specs.Prelude.{ℕ, ◌≡◌, ◌+◌, ◌<◌, ◌≤◌, ◌⊎◌, List, [], length, map, pos, slice_index}
use Rattle.std.specs.List.{All, AllZip, Contains}
use Rattle.timed_events.specs.declared.events.Event.{Event}
use Rattle.timed_events.specs.declared.events.EventAct.{EventAct}
use Rattle.timed_events.specs.declared.events.EventAct.TheVariants.{Send, Receive}
use Rattle.timed_events.specs.declared.idle_ticks.IdleTick.{IdleTick}
use Rattle.timed_events.specs.Checks.{processor_at, moment_of}

-- some event of processor p is in tick y
pub record HasEventIn (events : List Event) (ticks : List ℕ) (p y : ℕ) : Type 0 where
  pub place : ℕ
  pub inside : place < length events
  pub own : processor_at events place ≡ p
  pub at : slice_index ticks place ≡ y

-- Processor p has no event in the ticks after `since` up to y, which are at least one and at most
-- `limit`. It has an event in tick `since`, or that is 0.
pub record IsShortSilence (events : List Event) (ticks : List ℕ) (limit p y : ℕ) : Type 0 where
  pub since : ℕ
  pub from : (since ≡ 0) ⊎ HasEventIn events ticks p since
  pub some : since < y
  pub silent : (z : ℕ) → since < z → z ≤ y → ¬ HasEventIn events ticks p z
  pub short : y ≤ since + limit

-- Such a silence ends in tick y: that is the last tick, or p has an event in the next.
pub record IsIdleEnd (events : List Event) (ticks : List ℕ) (last limit p y : ℕ) : Type 0 where
  pub silence : IsShortSilence events ticks limit p y
  pub ends : (y ≡ last) ⊎ HasEventIn events ticks p (y + 1)

-- a short silence of one of n processors ends in this tick
pub record IsIdleTick (n : ℕ) (events : List Event) (ticks : List ℕ) (last limit : ℕ) (x : IdleTick) : Type 0 where
  pub least : 1 ≤ x.processor
  pub most : x.processor ≤ n
  pub end : IsIdleEnd events ticks last limit x.processor x.tick

-- the trace has this tick, and the processor, one of n, has no event in it
pub record IsFree (n : ℕ) (events : List Event) (ticks : List ℕ) (last : ℕ) (x : IdleTick) : Type 0 where
  pub least : 1 ≤ x.processor
  pub most : x.processor ≤ n
  pub first : 1 ≤ x.tick
  pub within : x.tick ≤ last
  pub free : ¬ HasEventIn events ticks x.processor x.tick

-- their moments: first the tick, then the processor
abbrev pub moments_of : List IdleTick → List ℕ
moments_of idles = map (λ x. moment_of x.tick x.processor) idles

-- each moment is above those before it
abbrev pub AreRising : List IdleTick → Type 0
AreRising idles = (j k : ℕ) → j < k → k < length idles
    → slice_index (moments_of idles) j < slice_index (moments_of idles) k

-- the list has each tick in which a short silence of one of n processors ends, once, in the order of their moments
pub record AreIdle (n : ℕ) (events : List Event) (ticks : List ℕ) (last limit : ℕ)
    (idles : List IdleTick) : Type 0 where
  pub each : All (IsIdleTick n events ticks last limit) idles
  pub all : (p y : ℕ) → 1 ≤ p → p ≤ n → IsIdleEnd events ticks last limit p y
      → Contains idles (record { processor = p; tick = y })
  pub rising : AreRising idles

-- it receives nothing
abbrev pub IsOfNothing : EventAct → Type 0
IsOfNothing (Send to) = ⊥
IsOfNothing (Receive messages) = messages ≡ []

-- the event is a receive of nothing by the processor of this tick, at the time 0 whatever the tick
pub record IsIdleReceive (x : IdleTick) (event : Event) : Type 0 where
  pub time : event.time ≡ pos 0
  pub own : event.processor ≡ x.processor
  pub act : IsOfNothing event.act

-- the events are receives of nothing, one for each of these ticks
abbrev pub AreReceives : List IdleTick → List Event → Type 0
AreReceives idles added = AllZip IsIdleReceive idles added

-- the ticks alone
abbrev pub ticks_of : List IdleTick → List ℕ
ticks_of idles = map (λ x. x.tick) idles
