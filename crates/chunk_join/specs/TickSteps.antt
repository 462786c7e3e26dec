-- The steps of a tick of a trace, which follow one another by number, and what each of them brings (own).
use Rattle.std.specs.Prelude.{ℕ, ◌+◌, List, Option, Some, None, IsTrue}
use Rattle.step_trace.specs.declared.steps.Step.{Step}
use Rattle.step_trace.specs.Processors.{has_proc}
use Rattle.step_trace.specs.Traces.{Recorded, IsReceiveOf}
use Rattle.step_trace.specs.TickSteps.{AreStepsBefore}

-- the steps after number a up to number b are those of tick x
pub record AreStepsOf (trace : Recorded) (x a b : ℕ) : Type 0 where
  pub first : AreStepsBefore trace x a
  pub next : AreStepsBefore trace (x + 1) b

-- the member whose Receive this step is, or none if the step isn't one
abbrev pub IsReceiverAt : ℕ → List Step → ℕ → Option ℕ → Type 0
IsReceiverAt set steps r None = (p : ℕ) → IsTrue (has_proc set p) → IsReceiveOf steps r p → ⊥
IsReceiverAt set steps r (Some p) = IsTrue (has_proc set p) × IsReceiveOf steps r p
