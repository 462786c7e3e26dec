-- Members of sets of processors: all up to a number, and the least above one (own).
use Rattle.std.specs.Prelude.{ℕ, ◌-◌, ◌^◌, ◌<◌, ◌≤◌, IsTrue}
use Rattle.step_trace.specs.Processors.{has_proc}

-- the set of the processors 1 to n
abbrev pub all_to : ℕ → ℕ
all_to n = 2 ^ n - 1

-- The processor is the least member of the set above n.
pub record IsLeastAbove (mask n p : ℕ) : Type 0 where
  pub member : IsTrue (has_proc mask p)
  pub above : n < p
  pub least : (q : ℕ) → IsTrue (has_proc mask q) → n < q → p ≤ q
