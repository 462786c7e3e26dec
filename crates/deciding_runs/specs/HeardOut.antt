-- Rounds that end because all has been heard that they can bring.
use Rattle.std.specs.Prelude.{ℕ, ◌≡◌, ◌-◌, ◌≤◌, ◌<◌, List, Some, Bool, true, IsTrue, Contains}
use Rattle.step_trace.specs.declared.steps.Act.TheVariants.{Receive}
use Rattle.step_trace.specs.declared.steps.Step.{Step}
use Rattle.step_trace.specs.Configurations.{Setup}
use Rattle.step_trace.specs.Traces.{step_at}
use Rattle.step_trace.specs.Processors.{has_proc, IsWithin}
use Rattle.lock_phases.specs.Hearing.{number_of}
use Rattle.deciding_runs.specs.Audible.{may_hear}
use Rattle.step_buffers.specs.HeardTables.{before, round_at}
use Rattle.step_buffers.specs.Runs.{IsSend, node_before}
use Rattle.step_buffers.specs.Buffers.{buffer}

-- p takes message s at step k
pub record IsTakenAt (steps : List Step) (p k s : ℕ) : Type 0 where
  pub ids : List ℕ
  pub ends : Bool
  pub step : step_at steps k ≡ Some (record { proc = p; act = Receive ends ids })
  pub taken : Contains ids s

-- at step k or before, p took a message that q sent in this round or in a later one
pub record HasHeardOf (steps : List Step) (p q round k : ℕ) : Type 0 where
  pub message : ℕ
  pub sent : IsSend steps q p message
  pub later : round ≤ round_at steps q message
  pub place : ℕ
  pub take : IsTakenAt steps p place message
  pub by : place ≤ k

-- p took message s at step k or before
pub record IsTakenBefore (steps : List Step) (p k s : ℕ) : Type 0 where
  pub place : ℕ
  pub take : IsTakenAt steps p place s
  pub by : place ≤ k

-- p takes what q sends to it in the order in which it was sent: with a message, or before it, each earlier one
abbrev pub TakesInOrder : List Step → ℕ → ℕ → Type 0
TakesInOrder steps p q =
    (s later k : ℕ) → IsSend steps q p s → IsSend steps q p later → s < later → IsTakenAt steps p k later
    → IsTakenBefore steps p k s

-- When p ended this round, it had heard something of that round or a later one from each member that it may hear. So
-- no patience ended it.
pub record IsHeardOut (c : Setup) (steps : List Step) (set p round : ℕ) : Type 0 where
  pub place : ℕ
  pub ids : List ℕ
  pub step : step_at steps place ≡ Some (record { proc = p; act = Receive true ids })
  pub round_is : round_at steps p place ≡ round
  pub heard : (q : ℕ) → IsTrue (has_proc set q) → may_hear c (node_before c steps p place) round p q ≡ true
      → HasHeardOf steps p q round place

-- A set of at least N - t processors that take one another's messages in order. Each ends each of some rounds when it
-- has heard all of the set that it may hear in it.
pub record HearOut (c : Setup) (steps : List Step) (set first last : ℕ) : Type 0 where
  pub within : IsWithin set c.n
  pub size : c.n - c.t ≤ number_of c.n (has_proc set)
  pub numbered : 1 ≤ first
  pub order : (p q : ℕ) → IsTrue (has_proc set p) → IsTrue (has_proc set q) → TakesInOrder steps p q
  pub rounds : (p round : ℕ) → IsTrue (has_proc set p) → first ≤ round → round ≤ last → IsHeardOut c steps set p round

-- each Receive of p takes all that waits for it
abbrev pub TakesAll : List Step → ℕ → Type 0
TakesAll steps p = (k : ℕ) (ids : List ℕ) (ends : Bool)
    → step_at steps k ≡ Some (record { proc = p; act = Receive ends ids }) → ids ≡ buffer (before steps k) p
