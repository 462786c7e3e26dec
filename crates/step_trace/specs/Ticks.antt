-- Real time (section 2, the real-time steps; that a tick may hold the steps of several processors, or none, is
-- own). A step has a number, which counts steps from 1, and a tick, which is the moment at which it is taken.
-- Numbers are called s, r, j, k; moments g, x, y.
use Rattle.std.specs.Prelude.{ℕ, ◌≡◌, ◌<◌, ◌≤◌, ◌⊎◌, List, [], ◌∷◌, ◌++◌, length, slice_index_or, Some, suc, zero}
use Rattle.step_trace.specs.declared.traces.TheConstants.{MAX_TICKS}
use Rattle.step_trace.specs.declared.steps.Step.{Step}
use Rattle.step_trace.specs.Traces.{Recorded, step_at, TakesAt, IsStepOf, IsWellFormed}

-- the tick of the step of this number, of the ticks of all steps; 0 if there is no such step
abbrev pub tick_at : List ℕ → ℕ → ℕ
tick_at ticks zero = 0
tick_at ticks (suc k) = slice_index_or ticks k 0

abbrev pub tick_of : Recorded → ℕ → ℕ
tick_of trace s = tick_at trace.ticks s

-- p takes a step in tick x
pub record StepsIn (trace : Recorded) (x p : ℕ) : Type 0 where
  pub place : ℕ
  pub step : IsStepOf trace.steps place p
  pub tick : tick_of trace place ≡ x

-- Step j, which is a, comes before step k, which is b: in an earlier tick, or in the same tick with a smaller
-- processor.
abbrev pub ComesBefore : Recorded → ℕ → Step → ℕ → Step → Type 0
ComesBefore trace j a k b = (tick_of trace j < tick_of trace k)
    ⊎ ((tick_of trace j ≡ tick_of trace k) × (a.proc < b.proc))

-- The steps are in time. Each is in a tick from 1 to the last, which is at most MAX_TICKS. Ticks don't fall, and
-- within a tick the processors rise, so that each takes at most one step in it. A message is taken in a later
-- tick than its Send's.
pub record IsTimed (trace : Recorded) : Type 0 where
  pub each : length trace.ticks ≡ length trace.steps
  pub end : trace.last ≤ MAX_TICKS
  pub inside : (k : ℕ) (x : Step) → step_at trace.steps k ≡ Some x
      → (1 ≤ tick_of trace k) × (tick_of trace k ≤ trace.last)
  pub order : (j k : ℕ) (a b : Step) → j < k → step_at trace.steps j ≡ Some a → step_at trace.steps k ≡ Some b
      → ComesBefore trace j a k b
  pub later : (k s : ℕ) → TakesAt trace.steps k s → tick_of trace s < tick_of trace k

-- A trace is well formed: its steps are, by their numbers, and they are in time.
pub record IsTrace (trace : Recorded) : Type 0 where
  pub steps : IsWellFormed trace.config trace.steps
  pub time : IsTimed trace

-- the trace with one more step, in this tick
abbrev pub with_step : Recorded → ℕ → Step → Recorded
with_step trace tick step =
    record { config = trace.config; steps = trace.steps ++ step ∷ []; ticks = trace.ticks ++ tick ∷ []; last = tick }

-- the trace with this last tick
abbrev pub with_last : Recorded → ℕ → Recorded
with_last trace tick = record { config = trace.config; steps = trace.steps; ticks = trace.ticks; last = tick }

-- one step in each tick, so that the tick of a step is its number
pub record IsOnePerTick (trace : Recorded) : Type 0 where
  pub end : trace.last ≡ length trace.steps
  pub each : (k : ℕ) → k ≤ length trace.steps → tick_of trace k ≡ k

-- The step may be appended in this tick: time doesn't go back, and the trace stays well formed.
pub record CanAppend (trace : Recorded) (tick : ℕ) (step : Step) : Type 0 where
  pub forward : trace.last ≤ tick
  pub sound : IsTrace (with_step trace tick step)
