-- The rounds of all processors, as they are counted while the steps of a run are scanned.
use Rattle.std.specs.Prelude.{ℕ, ◌≡◌, ◌-◌, List, length, slice_index_or}
use Rattle.step_trace.specs.declared.steps.Step.{Step}
use Rattle.step_trace.specs.Configurations.{Setup, IsProc}
use Rattle.step_buffers.specs.HeardTables.{round_at}

-- one number for each processor: its round at step k
pub record AreRounds (c : Setup) (steps : List Step) (k : ℕ) (rounds : List ℕ) : Type 0 where
  pub count : length rounds ≡ c.n
  pub each : (p : ℕ) → IsProc c p → slice_index_or rounds (p - 1) 0 ≡ round_at steps p k
