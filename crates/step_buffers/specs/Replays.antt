-- Traces that are made again, one step after the other (own).
use Rattle.std.specs.Prelude.{ℕ, ◌≡◌, ◌-◌, ◌≤◌, ◌++◌, ◌∷◌, [], List, Bool, true, false, length, take}
use Rattle.step_trace.specs.declared.steps.Step.{Step}
use Rattle.step_trace.specs.Configurations.{Setup}
use Rattle.step_trace.specs.Traces.{Recorded}
use Rattle.step_buffers.specs.declared.replays.ReplayError.{ReplayError}
use Rattle.step_buffers.specs.declared.replays.ReplayError.TheVariants.{NotARun, Memory}
use Rattle.step_buffers.specs.Runs.{IsRun}
use Rattle.step_buffers.specs.Dues.{IsDueInstead}

-- Step no is the first of these steps that isn't one of a run: the steps before it are a run, and with it they
-- are none.
pub record IsFirstOff (c : Setup) (steps : List Step) (no : ℕ) : Type 0 where
  pub positive : 1 ≤ no
  pub within : no ≤ length steps
  pub before : IsRun c (take (no - 1) steps)
  pub off : ¬ IsRun c (take no steps)

-- if the answer is that a step was made, it is at the end of the trace
abbrev pub IsMade : Recorded → Recorded → Step → Bool → Type 0
IsMade old new x is = is ≡ true → new.steps ≡ old.steps ++ x ∷ []

-- if the answer is that it wasn't, the steps with it are no run
abbrev pub IsOff : Recorded → Step → Bool → Type 0
IsOff old x is = is ≡ false → ¬ IsRun old.config (old.steps ++ x ∷ [])

-- what a refusal says about the steps; out of memory says nothing
abbrev pub IsReplayRefusal : Setup → List Step → ReplayError → Type 0
IsReplayRefusal c steps (NotARun n due) = IsFirstOff c steps n × IsDueInstead c steps n due
IsReplayRefusal c steps Memory = Unit {0}
