-- Kept steps, each with its tick (own).
use Rattle.std.specs.Prelude.{ℕ, List, Option, option_map}
use Rattle.step_trace.specs.declared.steps.Step.{Step}
use Rattle.step_trace.specs.Traces.{step_at}
use Rattle.step_trace.specs.Ticks.{tick_at}

-- the steps, and the tick of each
pub record Ticked : Type 0 where
  pub steps : List Step
  pub ticks : List ℕ

-- the step of a number, with its tick
abbrev pub at_number : Ticked → ℕ → Option (ℕ × Step)
at_number placed k = option_map (λ x. (tick_at placed.ticks k, x)) (step_at placed.steps k)
