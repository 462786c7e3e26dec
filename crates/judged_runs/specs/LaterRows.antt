-- The rows of the last ticks of a trace (own).
use Rattle.std.specs.Prelude.{ℕ, ◌≡◌, ◌≤◌, ◌<◌, ◌+◌, List, Some, slice_get}
use Rattle.step_trace.specs.declared.rows.Row.{Row}
use Rattle.step_trace.specs.Traces.{Recorded}
use Rattle.step_trace.specs.Fronts.{Triple, IsFeasible}
use Rattle.judged_runs.specs.LateInTime.{AreFalling}

-- a row, so many ticks later
abbrev pub later_by : ℕ → Row → Row
later_by after r = record { gst = r.gst + after; delta = r.delta; phi = r.phi; miss = r.miss; gap = r.gap }

-- a row begins no later than the triple, and has no greater bounds
pub record IsServed (rows : List Row) (t : Triple) : Type 0 where
  pub place : ℕ
  pub row : Row
  pub there : slice_get rows place ≡ Some row
  pub gst : row.gst ≤ t.gst
  pub delta : row.delta ≤ t.delta
  pub phi : row.phi ≤ t.phi

-- The bounds of the rows fall, and any bounds that hold from a tick after this one on are no less
-- than those of a row that has begun.
pub record AreRowsAfter (set : ℕ) (trace : Recorded) (after : ℕ) (rows : List Row) : Type 0 where
  pub falling : AreFalling rows
  pub served : (t : Triple) → IsFeasible set trace t → after < t.gst → IsServed rows t
