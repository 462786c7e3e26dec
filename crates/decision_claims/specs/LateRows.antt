-- Rows of the front that keep a claim, or refute it (own).
use Rattle.std.specs.Prelude.{ℕ, ◌≡◌, ◌≤◌, ◌<◌, List, Some, slice_get, IsTrue, Bool, nat_le}
use Rattle.step_trace.specs.declared.rows.Row.{Row}
use Rattle.step_trace.specs.Processors.{has_proc}
use Rattle.step_trace.specs.Traces.{Recorded}
use Rattle.step_trace.specs.Fronts.{Triple, triple_of}
use Rattle.decision_claims.specs.declared.decisions.Decision.{Decision}
use Rattle.decision_claims.specs.declared.lateness.Late.{Late}
use Rattle.decision_claims.specs.Decisions.{HasDecidedBy}
use Rattle.decision_claims.specs.Claims.{IsKept}

-- the processor is the least member that had not decided by this tick
pub record IsLeastUndecided (set : ℕ) (decisions : List Decision) (y p : ℕ) : Type 0 where
  pub member : IsTrue (has_proc set p)
  pub undecided : ¬ HasDecidedBy decisions p y
  pub least : (q : ℕ) → q < p → IsTrue (has_proc set q) → HasDecidedBy decisions q y

-- The first row whose deadline wasn't kept, with the deadline and the least member that had not decided by it.
pub record IsFirstLate (set : ℕ) (trace : Recorded) (rows : List Row) (decisions : List Decision)
    (deadline : Triple → ℕ) (w : Late) : Type 0 where
  pub place : ℕ
  pub row : slice_get rows place ≡ Some w.row
  pub by : w.deadline ≡ deadline (triple_of w.row)
  pub due : w.deadline ≤ trace.last
  pub proc : IsLeastUndecided set decisions w.deadline w.proc
  pub before : (k : ℕ) (r : Row) → k < place → slice_get rows k ≡ Some r
      → IsKept set trace decisions (deadline (triple_of r))

-- each row's deadline was kept
pub record AllKept (set : ℕ) (trace : Recorded) (rows : List Row) (decisions : List Decision)
    (deadline : Triple → ℕ) : Type 0 where
  pub each : (k : ℕ) (r : Row) → slice_get rows k ≡ Some r → IsKept set trace decisions (deadline (triple_of r))

-- whether the deadline of a row is no later than the last tick
abbrev pub is_due : Recorded → (Triple → ℕ) → Row → Bool
is_due trace deadline r = nat_le (deadline (triple_of r)) trace.last

-- the deadline of each row is after the last tick
pub record AreAllLater (trace : Recorded) (rows : List Row) (deadline : Triple → ℕ) : Type 0 where
  pub each : (k : ℕ) (r : Row) → slice_get rows k ≡ Some r → trace.last < deadline (triple_of r)

-- The least deadline of the rows, which is no later than the last tick.
pub record IsLeastDue (trace : Recorded) (rows : List Row) (deadline : Triple → ℕ) (y : ℕ) : Type 0 where
  pub place : ℕ
  pub row : Row
  pub there : slice_get rows place ≡ Some row
  pub of_row : y ≡ deadline (triple_of row)
  pub due : y ≤ trace.last
  pub least : (k : ℕ) (r : Row) → slice_get rows k ≡ Some r → y ≤ deadline (triple_of r)
