-- Who is suspected, and since when.
use Rattle.std.specs.Prelude.{ℕ, ◌≡◌, ◌-◌, ◌≤◌, List, Some, true}
use Rattle.step_trace.specs.declared.steps.Act.TheVariants.{Receive}
use Rattle.step_trace.specs.declared.steps.Step.{Step}
use Rattle.step_trace.specs.Configurations.{Setup}
use Rattle.step_trace.specs.Traces.{step_at}
use Rattle.lock_phases.specs.Rounds.{part_of}
use Rattle.step_buffers.specs.HeardTables.{round_at}
use Rattle.step_buffers.specs.Runs.{IsSend}
use Rattle.deciding_runs.specs.HeardOut.{IsTakenAt, HasHeardOf}
use Rattle.patience_laws.specs.PacedRuns.{peer_after}

-- p suspects q after the first k steps
abbrev pub Suspects : Setup → ℕ → List Step → ℕ → ℕ → ℕ → Type 0
Suspects c patience steps p q k = (peer_after c patience steps p q k).suspected ≡ true

-- with step k, p takes a message of q
pub record TakesOf (steps : List Step) (p q k : ℕ) : Type 0 where
  pub message : ℕ
  pub sent : IsSend steps q p message
  pub take : IsTakenAt steps p k message

-- from its own round of this number on, and up to step k, p takes nothing of q
abbrev pub TakesNothingOf : List Step → ℕ → ℕ → ℕ → ℕ → Type 0
TakesNothingOf steps p q round k = (m : ℕ) → round ≤ round_at steps p m → m ≤ k → ¬ TakesOf steps p q m

-- Up to step k, p ended a phase in which it took nothing of q, with a round of this number, nor has
-- it since; and it had heard nothing of q of that round or of a later one.
pub record WasSilent (steps : List Step) (p q k : ℕ) : Type 0 where
  pub round : ℕ
  pub place : ℕ
  pub ids : List ℕ
  pub step : step_at steps place ≡ Some (record { proc = p; act = Receive true ids })
  pub round_is : round_at steps p place ≡ round
  pub last : part_of round ≡ 4
  pub by : place ≤ k
  pub nothing : TakesNothingOf steps p q (round - 3) k
  pub behind : ¬ HasHeardOf steps p q round place
