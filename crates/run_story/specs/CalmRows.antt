-- The row in which a run is calm: the one whose rest, from its tick to the end, has the most room for its bounds (own).
use Rattle.std.specs.Prelude.{ℕ, ◌≡◌, ◌+◌, ◌-◌, ◌*◌, ◌<◌, ◌≤◌, Bool, nat_lt, List, length, Some, max, slice_get}
use Rattle.step_trace.specs.declared.rows.Row.{Row}

-- the row's bounds are such as a trace with this last tick may have
pub record FitsIn (last : ℕ) (r : Row) : Type 0 where
  pub delta_low : 1 ≤ r.delta
  pub delta_high : r.delta ≤ last + 1
  pub phi_low : 1 ≤ r.phi
  pub phi_high : r.phi ≤ last + 1

-- how many ticks there are from the row's to the last
abbrev pub rest : ℕ → Row → ℕ
rest last r = last - (r.gst - 1)

abbrev pub square : ℕ → ℕ
square n = n * n

-- The rest of row a has more room than that of row b: by the square of its ticks over the product of both bounds.
abbrev pub IsCalmer : ℕ → Row → Row → Type 0
IsCalmer last a b = square (rest last b) * (a.delta * a.phi) < square (rest last a) * (b.delta * b.phi)

-- of the rows before place n, none is calmer than the one at place k, and each before that is less calm
pub record IsCalmBelow (last : ℕ) (rows : List Row) (n k : ℕ) : Type 0 where
  pub row : Row
  pub stands : slice_get rows k ≡ Some row
  pub below : k < n
  pub calmest : (j : ℕ) (o : Row) → j < n → slice_get rows j ≡ Some o → ¬ IsCalmer last o row
  pub first : (j : ℕ) (o : Row) → j < k → slice_get rows j ≡ Some o → IsCalmer last row o

-- the row at place k is the calm one: no row is calmer, and each before it is less calm
abbrev pub IsCalmRow : ℕ → List Row → ℕ → Type 0
IsCalmRow last rows k = IsCalmBelow last rows (length rows) k

-- whether the row's rest has room for less than three times the greater of its bounds
abbrev pub is_poor : ℕ → Row → Bool
is_poor last r = nat_lt (rest last r) (3 * max r.delta r.phi)
