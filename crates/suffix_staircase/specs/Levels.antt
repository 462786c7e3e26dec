-- The levels of a trace: the least bounds from each tick on, which fall from tick to tick.
use Rattle.std.specs.Prelude.{ℕ, ◌≡◌, ◌+◌, ◌-◌, ◌≤◌, List, [], ◌∷◌, ◌++◌, map, replicate, Option, None, Some}
use Rattle.std.specs.Prelude.{Bool, true, false, not, ◌==◌, ◌&&◌, slice_get, Contains, if◌then◌else◌}
use Rattle.std.specs.List.Sorted.{IsStrictlyIncreasing}
use Rattle.step_trace.specs.declared.rows.Row.{Row}
use Rattle.suffix_staircase.specs.declared.levels.Level.{Level}

-- a level may come right before the next: neither bound is below the next one's, and an equal bound has the same
-- witness
pub record StandsBefore (level next : Level) : Type 0 where
  pub delta : next.delta ≤ level.delta
  pub phi : next.phi ≤ level.phi
  pub miss : level.delta ≡ next.delta → level.miss ≡ next.miss
  pub gap : level.phi ≡ next.phi → level.gap ≡ next.gap

-- a level may come before these
abbrev pub CanStandBefore : Level → List Level → Type 0
CanStandBefore level [] = Unit {0}
CanStandBefore level (next ∷ rest) = StandsBefore level next

-- each level may come before those after it
abbrev pub IsStaircase : List Level → Type 0
IsStaircase [] = Unit {0}
IsStaircase (level ∷ rest) = CanStandBefore level rest × IsStaircase rest

abbrev pub same_bounds : Level → Level → Bool
same_bounds a b = a.delta == b.delta && a.phi == b.phi

-- the first of these levels so many times more, and then these
abbrev pub repeated : ℕ → List Level → List Level
repeated count [] = []
repeated count (level ∷ rest) = replicate count level ++ level ∷ rest

-- whether a level that is put before these has another bound than the first of them
abbrev pub begins : Level → List Level → Bool
begins level [] = true
begins level (next ∷ rest) = not (same_bounds next level)

-- whether a level has another bound than the one before, if there is one
abbrev pub is_other : Option Level → Level → Bool
is_other None level = true
is_other (Some last) level = not (same_bounds level last)

-- the row of a level that begins at g
abbrev pub row_from : ℕ → Level → Row
row_from g level = record { gst = g; delta = level.delta; phi = level.phi; miss = level.miss; gap = level.gap }

-- the level that a row has
abbrev pub level_of : Row → Level
level_of r = record { delta = r.delta; miss = r.miss; phi = r.phi; gap = r.gap }

-- the rows of those of these levels, the first of which has the number g, that have another bound than the one before
abbrev pub rows_after : Option Level → ℕ → List Level → List Row
rows_after last g [] = []
rows_after last g (level ∷ rest) =
    let more = rows_after (Some level) (g + 1) rest in
    if is_other last level then row_from g level ∷ more else more

-- the rows of the levels of a trace, which have numbers from 1
abbrev pub rows_of : List Level → List Row
rows_of levels = rows_after None 1 levels

-- the numbers of the levels that have another bound than the level before
abbrev pub starts : List Level → List ℕ
starts levels = map (λ r. r.gst) (rows_of levels)

-- level g is the first, or it has another bound than the level before
pub record IsStart (levels : List Level) (g : ℕ) : Type 0 where
  pub level : Level
  pub here : 1 ≤ g
  pub stands : slice_get levels (g - 1) ≡ Some level
  pub other : (last : Level) → 2 ≤ g → slice_get levels (g - 2) ≡ Some last → same_bounds level last ≡ false

-- these are the starts, in rising order
pub record AreStarts (levels : List Level) (numbers : List ℕ) : Type 0 where
  pub rising : IsStrictlyIncreasing numbers
  pub sound : (g : ℕ) → Contains numbers g → IsStart levels g
  pub complete : (g : ℕ) → IsStart levels g → Contains numbers g
