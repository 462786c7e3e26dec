-- What a report is to its readers, and what a row means for the ticks that it applies to.
use Rattle.std.specs.Prelude.{ℕ, ◌<◌, ◌≤◌, List, [], ◌∷◌, Option, Some, None, IsSomeAnd, nat_le, ◌&&◌, if◌then◌else◌}
use Rattle.step_trace.specs.Traces.{Recorded}
use Rattle.step_trace.specs.declared.rows.Row.{Row}
use Rattle.step_trace.specs.Bounds.{IsDelta, IsPhi}
use Rattle.step_trace.specs.Witnesses.{MissRefutes, GapRefutes}

-- the last tick, and the rows in rising stabilization time
pub record Reported : Type 0 where
  pub len : ℕ
  pub rows : List Row

-- the first that there is
abbrev pub first_of : Option Row → Option Row → Option Row
first_of (Some r) other = Some r
first_of None other = other

-- the last row that begins at g or before, if there is one
abbrev pub last_begun : List Row → ℕ → Option Row
last_begun [] g = None
last_begun (r ∷ rest) g = first_of (last_begun rest g) (if nat_le r.gst g then Some r else None)

-- the row that applies to g: the last one that begins at g or before; none outside the trace
abbrev pub row_at : Reported → ℕ → Option Row
row_at report g = if nat_le 1 g && nat_le g report.len then last_begun report.rows g else None

-- The row's bounds are the least ones from g, and its witnesses refute each smaller positive bound from g.
pub record Serves (set : ℕ) (trace : Recorded) (g : ℕ) (r : Row) : Type 0 where
  pub delta : IsDelta set trace g r.delta
  pub phi : IsPhi set trace g r.phi
  pub miss : (d : ℕ) → 1 ≤ d → d < r.delta → IsSomeAnd r.miss (λ m. MissRefutes set trace g d m)
  pub gap : (f : ℕ) → 1 ≤ f → f < r.phi → IsSomeAnd r.gap (λ w. GapRefutes set trace g f w)
