-- What a processor has to do in place of a step that isn't due.
use Rattle.std.specs.Prelude.{ℕ, ◌≡◌, ◌-◌, List, Option, Some, None, take}
use Rattle.step_trace.specs.declared.steps.Act.{Act}
use Rattle.step_trace.specs.declared.steps.Act.TheVariants.{Send, Receive}
use Rattle.step_trace.specs.declared.steps.Step.{Step}
use Rattle.step_trace.specs.Configurations.{Setup}
use Rattle.step_trace.specs.Traces.{step_at, IsWellFormed}
use Rattle.step_buffers.specs.declared.dues.Due.{Due}
use Rattle.step_buffers.specs.declared.dues.DueStep.{DueStep}
use Rattle.step_buffers.specs.declared.dues.DueStep.TheVariants as instead
use Rattle.step_buffers.specs.Runs.{IsDue}
use Rattle.step_buffers.specs.Moves.{next_send}

-- If all messages of its round are out, it receives. If it sends next to a processor, it sends to this one in place of
-- another, and before it ends its round.
abbrev pub due_for : Option ℕ → Act → DueStep
due_for None act = instead.Receive
due_for (Some to) (Send other) = instead.SendTo to
due_for (Some to) (Receive ends ids) = instead.SendFirst to

-- Step no isn't what its processor had to do after the steps before it, and this is.
pub record IsDueInstead (c : Setup) (steps : List Step) (no : ℕ) (due : Due) : Type 0 where
  pub step : Step
  pub at : step_at steps no ≡ Some step
  pub proc : due.proc ≡ step.proc
  pub what : due.what ≡ due_for (next_send c (take (no - 1) steps) step.proc) step.act
  pub undue : IsWellFormed c (take no steps) → ¬ IsDue (next_send c (take (no - 1) steps) step.proc) step.act
