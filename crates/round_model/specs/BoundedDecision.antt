-- The bounded decision (section 3). If the processors of a large enough set hear one another from some round on, each
-- of them has decided by a round that is known beforehand.
use Rattle.std.specs.Prelude.{ℕ, ◌≡◌, ◌+◌, ◌-◌, ◌*◌, ◌/◌, ◌≤◌, IsTrue, is_some, Contains}
use Rattle.step_trace.specs.Configurations.{Setup}
use Rattle.step_trace.specs.Processors.{has_proc, IsWithin}
use Rattle.lock_phases.specs.Nodes.{State, LockPair, value_of}
use Rattle.lock_phases.specs.Hearing.{number_of}
use Rattle.round_model.specs.RoundStates.{Table}

-- in this round each processor of the set hears all of the set, itself too
abbrev pub HearsAllOf : ℕ → Table → ℕ → Type 0
HearsAllOf set table round = (p q : ℕ) → IsTrue (has_proc set p) → IsTrue (has_proc set q) → IsTrue (table p round q)

-- A set of at least N - t processors, each of which hears all of them in the rounds from the first of these to the
-- last.
pub record IsInTouch (c : Setup) (set : ℕ) (table : Table) (first last : ℕ) : Type 0 where
  pub within : IsWithin set c.n
  pub size : c.n - c.t ≤ number_of c.n (has_proc set)
  pub numbered : 1 ≤ first
  pub hears : (round : ℕ) → first ≤ round → round ≤ last → HearsAllOf set table round

-- the phase with the first lock-release round that doesn't come before this round
abbrev pub settling_phase : ℕ → ℕ
settling_phase first = (first + 3) / 4

-- the acknowledging round of the N-th phase after that one
abbrev pub deciding_round : Setup → ℕ → ℕ
deciding_round c first = 4 * (settling_phase first + c.n) - 1

-- each processor of the set has decided
abbrev pub HaveDecided : ℕ → (ℕ → State) → Type 0
HaveDecided set nodes = (p : ℕ) → IsTrue (has_proc set p) → IsTrue (is_some (nodes p).decision)

-- all locks held in the set are on one value
abbrev pub HoldOneValue : ℕ → (ℕ → State) → Type 0
HoldOneValue set nodes =
    (p q : ℕ) (lock other : LockPair) → IsTrue (has_proc set p) → IsTrue (has_proc set q)
    → Contains (nodes p).locks lock → Contains (nodes q).locks other
    → value_of lock ≡ value_of other

-- each value that is locked in the set is in the PROPER of all of the set
abbrev pub LocksAreProper : ℕ → (ℕ → State) → Type 0
LocksAreProper set nodes =
    (p q : ℕ) (lock : LockPair) → IsTrue (has_proc set p) → IsTrue (has_proc set q) → Contains (nodes p).locks lock
    → Contains (nodes q).proper (value_of lock)
