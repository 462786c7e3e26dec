-- The tick of the next step of each processor: after a step by its number, and from a tick on.
use Rattle.std.specs.Prelude.{ℕ, ◌≡◌, ◌+◌, ◌<◌, ◌≤◌, List, length, slice_index, IsTrue}
use Rattle.step_trace.specs.Processors.{has_proc}
use Rattle.step_trace.specs.Traces.{Recorded, IsStepOf}
use Rattle.step_trace.specs.Ticks.{tick_of, StepsIn}
use Rattle.suffix_staircase.specs.declared.next_steps.NextSteps.{NextSteps}

-- the tick of the first step of p after number done, or one after the last tick if there is none
pub record IsNextTick (trace : Recorded) (p done next : ℕ) : Type 0 where
  pub until : next ≤ trace.last + 1
  pub first : (k : ℕ) → done < k → IsStepOf trace.steps k p → next ≤ tick_of trace k
  pub step : next ≤ trace.last → (k : ℕ) × (done < k) × IsStepOf trace.steps k p × (tick_of trace k ≡ next)

-- the tick of the next step of each of these processors of a trace after number done, and 0 at number 0
pub record AreNextTicks (Of : ℕ → Type 0) (trace : Recorded) (done : ℕ) (next : List ℕ) : Type 0 where
  pub long : length next ≡ trace.config.n + 1
  pub zero : slice_index next 0 ≡ 0
  pub each : (p : ℕ) → 1 ≤ p → p ≤ trace.config.n → Of p → IsNextTick trace p done (slice_index next p)

-- the first tick from g on in which p takes a step, or one after the last tick if there is none
pub record IsNextStep (trace : Recorded) (p g next : ℕ) : Type 0 where
  pub from : g ≤ next
  pub until : next ≤ trace.last + 1
  pub silent : (x : ℕ) → g ≤ x → x < next → ¬ StepsIn trace x p
  pub step : next ≤ trace.last → StepsIn trace next p

-- the next step of each member from tick g on, and 0 at number 0
pub record AreNextSteps (set : ℕ) (trace : Recorded) (g : ℕ) (next : List ℕ) : Type 0 where
  pub long : length next ≡ trace.config.n + 1
  pub zero : slice_index next 0 ≡ 0
  pub each : (p : ℕ) → 1 ≤ p → p ≤ trace.config.n → IsTrue (has_proc set p) → IsNextStep trace p g (slice_index next p)

-- of the members of the set below `until`, the one whose number here is greatest, and of these the
-- least: 0 if there is none
pub record IsLatest (set : ℕ) (next : List ℕ) (until latest : ℕ) : Type 0 where
  pub within : latest < length next
  pub member : 0 < latest → IsTrue (has_proc set latest)
  pub greatest : (p : ℕ) → p < until → 1 ≤ p → IsTrue (has_proc set p) → slice_index next p ≤ slice_index next latest
  pub least : (p : ℕ) → p < latest → 1 ≤ p → IsTrue (has_proc set p) → slice_index next p < slice_index next latest

-- what is known of the next steps of members after number done
pub record KnowsNextSteps (set : ℕ) (trace : Recorded) (done : ℕ) (known : NextSteps) : Type 0 where
  pub next : AreNextTicks (λ p. IsTrue (has_proc set p)) trace done known.by_processor.items
  pub latest : IsLatest set known.by_processor.items (length known.by_processor.items) known.latest
