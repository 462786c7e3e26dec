-- By which tick every member of a set has taken a step since a tick (own).
use Rattle.std.specs.Prelude.{ℕ, ◌≡◌, ◌+◌, ◌<◌, ◌≤◌, ◌⊎◌, List, length, slice_index, IsTrue}
use Rattle.step_trace.specs.Processors.{has_proc}
use Rattle.step_trace.specs.Traces.{Recorded}
use Rattle.step_trace.specs.Ticks.{StepsIn}
use Rattle.certificate_checker.specs.Silences.{IsNextStep}

-- p takes a step in a tick from x to y
pub record StepsBetween (trace : Recorded) (p x y : ℕ) : Type 0 where
  pub tick : ℕ
  pub from : x ≤ tick
  pub until : tick ≤ y
  pub step : StepsIn trace tick p

-- a member of the set that takes no step in the ticks from x to before y
pub record HasSilent (set : ℕ) (trace : Recorded) (x y : ℕ) : Type 0 where
  pub proc : ℕ
  pub member : IsTrue (has_proc set proc)
  pub silent : (z : ℕ) → x ≤ z → z < y → ¬ StepsIn trace z proc

-- Tick y is the first by which every member of the set has taken a step from tick x on, or the tick after the last
-- if there is none.
pub record IsClosedBy (set : ℕ) (trace : Recorded) (x y : ℕ) : Type 0 where
  pub from : x ≤ y
  pub until : y ≤ trace.last + 1
  pub full : y ≤ trace.last → (p : ℕ) → IsTrue (has_proc set p) → StepsBetween trace p x y
  pub unmet : x < y → HasSilent set trace x y

-- that tick, for each tick
pub record AreClosings (set : ℕ) (trace : Recorded) (closings : List ℕ) : Type 0 where
  pub long : length closings ≡ trace.last + 1
  pub each : (x : ℕ) → x ≤ trace.last → IsClosedBy set trace x (slice_index closings x)

-- an end is noted at or before tick x that isn't before the next step of p from x on
pub record IsReached (trace : Recorded) (p : ℕ) (ends : List ℕ) (x : ℕ) : Type 0 where
  pub next : ℕ
  pub is : IsNextStep trace p x next
  pub start : ℕ
  pub low : start ≤ x
  pub far : x < next → next ≤ slice_index ends start

-- The ends of the silences of p that begin before tick `until` are noted where they begin, unless later ones are
-- there.
pub record PutsEnds (trace : Recorded) (p until : ℕ) (old new : List ℕ) : Type 0 where
  pub long : length new ≡ length old
  pub kept : (x : ℕ) → slice_index old x ≤ slice_index new x
  pub own : (x : ℕ) → (slice_index new x ≡ slice_index old x)
      ⊎ (((z : ℕ) → x ≤ z → z < slice_index new x → ¬ StepsIn trace z p) × (slice_index new x ≤ trace.last + 1))
  pub reach : (x : ℕ) → x < until → x ≤ trace.last → IsReached trace p new x

-- The ends of the silences of the members below `number` are noted.
pub record KnowsEnds (set : ℕ) (trace : Recorded) (number : ℕ) (ends : List ℕ) : Type 0 where
  pub long : length ends ≡ trace.last + 1
  pub silent : (x : ℕ) → x < slice_index ends x → HasSilent set trace x (slice_index ends x)
      × (slice_index ends x ≤ trace.last + 1)
  pub reach : (p : ℕ) → IsTrue (has_proc set p) → p < number → (x : ℕ) → x ≤ trace.last → IsReached trace p ends x

-- the place has the tick unless it had a later one, and all else is unchanged
pub record IsRaised (place tick : ℕ) (old new : List ℕ) : Type 0 where
  pub long : length new ≡ length old
  pub here : place < length old → tick ≤ slice_index new place
  pub kept : (x : ℕ) → slice_index old x ≤ slice_index new x
  pub own : (x : ℕ) → (slice_index new x ≡ slice_index old x) ⊎ ((x ≡ place) × (slice_index new x ≡ tick))

-- the latest of the ends up to tick x, or x if none is later
pub record IsLatest (ends : List ℕ) (x latest : ℕ) : Type 0 where
  pub from : x ≤ latest
  pub all : (y : ℕ) → y ≤ x → slice_index ends y ≤ latest
  pub own : x < latest → (y : ℕ) × (y ≤ x) × (slice_index ends y ≡ latest)

-- that end, for each tick
pub record IsCarried (old new : List ℕ) : Type 0 where
  pub long : length new ≡ length old
  pub each : (x : ℕ) → x < length old → IsLatest old x (slice_index new x)
