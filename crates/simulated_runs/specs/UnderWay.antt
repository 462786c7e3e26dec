-- What is under way in a run.
use Rattle.std.specs.Prelude.{ℕ, ◌≡◌, ◌≤◌, List, Contains, length}
use Rattle.step_trace.specs.declared.steps.Step.{Step}
use Rattle.step_buffers.specs.Buffers.{buffer}
use Rattle.simulated_runs.specs.declared.trays.Posted.{Posted}
use Rattle.simulated_runs.specs.Posts.{tray_of}

-- These messages are under way to p: each waits for it, and each has an id of its own.
pub record IsUnderWay (steps : List Step) (p : ℕ) (posted : List Posted) : Type 0 where
  pub waits : (m : Posted) → Contains posted m → Contains (buffer steps p) m.id
  pub distinct : (m other : Posted) → Contains posted m → Contains posted other → m.id ≡ other.id → m ≡ other

-- to each processor
abbrev pub AreUnderWay : List Step → List (List Posted) → Type 0
AreUnderWay steps trays = (p : ℕ) → 1 ≤ p → p ≤ length trays → IsUnderWay steps p (tray_of trays p)
