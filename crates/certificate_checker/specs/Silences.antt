-- The next steps of processors (own).
use Rattle.std.specs.Prelude.{ℕ, ◌≡◌, ◌+◌, ◌<◌, ◌≤◌, List, length, slice_get, Some, All, Contains, IsTrue}
use Rattle.std.specs.List.Sorted.{IsNonDecreasing}
use Rattle.step_trace.specs.Processors.{has_proc}
use Rattle.step_trace.specs.Traces.{Recorded, IsStepOf}
use Rattle.step_trace.specs.Ticks.{StepsIn, tick_of}
use Rattle.certificate_checker.specs.declared.silences.Silence.{Silence}

-- the first tick from x on in which p takes a step, or the tick after the last if there is none
pub record IsNextStep (trace : Recorded) (p x next : ℕ) : Type 0 where
  pub from : x ≤ next
  pub until : next ≤ trace.last + 1
  pub silent : (y : ℕ) → x ≤ y → y < next → ¬ StepsIn trace y p
  pub step : next ≤ trace.last → StepsIn trace next p

-- the ticks in which p takes steps, in their order
pub record IsSilence (trace : Recorded) (p : ℕ) (s : Silence) : Type 0 where
  pub rising : IsNonDecreasing s.ticks.items
  pub own : All (λ x. StepsIn trace x p) s.ticks.items
  pub each : (x : ℕ) → StepsIn trace x p → Contains s.ticks.items x

-- the silence of each member of the set, in the place of its number
pub record AreSilences (set : ℕ) (trace : Recorded) (silences : List Silence) : Type 0 where
  pub long : length silences ≡ trace.config.n + 1
  pub each : (p : ℕ) (s : Silence) → IsTrue (has_proc set p) → slice_get silences p ≡ Some s → IsSilence trace p s

-- ticks in which p takes steps, in their order: those of its steps before number `number`, and none after the tick of
-- a further step
pub record KnowsSilence (trace : Recorded) (p number : ℕ) (s : Silence) : Type 0 where
  pub rising : IsNonDecreasing s.ticks.items
  pub own : All (λ x. StepsIn trace x p) s.ticks.items
  pub each : (k : ℕ) → k < number → IsStepOf trace.steps k p → Contains s.ticks.items (tick_of trace k)
  pub rest : (k : ℕ) → number ≤ k → IsStepOf trace.steps k p → All (λ x. x ≤ tick_of trace k) s.ticks.items

-- the same of each member of the set
pub record KnowsSilences (set : ℕ) (trace : Recorded) (number : ℕ) (silences : List Silence) : Type 0 where
  pub long : length silences ≡ trace.config.n + 1
  pub each : (p : ℕ) (s : Silence) → IsTrue (has_proc set p) → slice_get silences p ≡ Some s
      → KnowsSilence trace p number s
