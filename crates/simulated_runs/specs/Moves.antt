-- One step of a simulated run.
use Rattle.std.specs.Prelude.{ℕ, ◌≡◌, ◌++◌, ◌∷◌, []}
use Rattle.step_trace.specs.declared.steps.Step.{Step}
use Rattle.step_trace.specs.Traces.{Recorded}

-- p made one step more
pub record IsMade (old new : Recorded) (p : ℕ) : Type 0 where
  pub step : Step
  pub own : step.proc ≡ p
  pub steps : new.steps ≡ old.steps ++ step ∷ []
  pub config : new.config ≡ old.config
