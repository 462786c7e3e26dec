-- The index of the messages that were taken: a flag for each step, so that no step is looked for.
use Rattle.std.specs.Prelude.{ℕ, ◌≡◌, List, length, Bool, false, slice_index_or, suc, zero}
use Rattle.step_trace.specs.declared.steps.Step.{Step}
use Rattle.step_trace.specs.PushRefusals.{is_taken}

-- the flag of message s, of flags from message 1 on
abbrev pub flag_of : List Bool → ℕ → Bool
flag_of taken zero = false
flag_of taken (suc k) = slice_index_or taken k false

-- the flag of each message says whether it was taken
pub record IsIndex (steps : List Step) (taken : List Bool) : Type 0 where
  pub long : length taken ≡ length steps
  pub each : (s : ℕ) → flag_of taken s ≡ is_taken steps s
