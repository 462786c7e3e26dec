-- The reasons against rows, and the verdict (own).
use Rattle.std.specs.Prelude.{ℕ, ◌≡◌, ◌-◌, ◌<◌, ◌≤◌, ◌⊎◌, List, [], Some}
use Rattle.step_trace.specs.declared.rows.Row.{Row}
use Rattle.step_trace.specs.Traces.{Recorded}
use Rattle.step_trace.specs.Bounds.{DeltaHolds, PhiHolds}
use Rattle.certificate_checker.specs.declared.verdicts.Reason.{Reason}
use Rattle.certificate_checker.specs.declared.verdicts.Reason.TheVariants.{NoRows, FirstNotOne, NotRising, BeyondEnd}
use Rattle.certificate_checker.specs.declared.verdicts.Reason.TheVariants.{NotNonIncreasing, SameAsBefore, BadMiss}
use Rattle.certificate_checker.specs.declared.verdicts.Reason.TheVariants.{BadGap, DeltaFails, PhiFails}
use Rattle.certificate_checker.specs.declared.verdicts.Verdict.{Verdict}
use Rattle.certificate_checker.specs.declared.verdicts.Verdict.TheVariants.{Yes, No}
use Rattle.step_trace.specs.ReportRows.{row_at}
use Rattle.certificate_checker.specs.Certificates.{after_stretch, ShowsDelta, ShowsPhi}
use Rattle.certificate_checker.specs.Certificates.{IsLongestMiss, IsLongestGap}

-- row k is `row`
pub record HasRow (rows : List Row) (k : ℕ) : Type 0 where
  pub row : Row
  pub here : row_at rows k ≡ Some row

-- row k, and the row before it
pub record HasTwoRows (rows : List Row) (k : ℕ) : Type 0 where
  pub before : Row
  pub row : Row
  pub there : row_at rows (k - 1) ≡ Some before
  pub here : row_at rows k ≡ Some row

-- the reason holds against the rows
abbrev pub Stands : ℕ → Recorded → List Row → Reason → Type 0
Stands set trace rows NoRows = (rows ≡ []) × (1 ≤ trace.last)
Stands set trace rows FirstNotOne = (a : HasRow rows 1) × ¬ (a.row.gst ≡ 1)
Stands set trace rows (NotRising k) = (a : HasTwoRows rows k) × (a.row.gst ≤ a.before.gst)
Stands set trace rows (BeyondEnd k) = (a : HasRow rows k) × (trace.last < a.row.gst)
Stands set trace rows (NotNonIncreasing k) = (a : HasTwoRows rows k)
    × ((a.before.delta < a.row.delta) ⊎ (a.before.phi < a.row.phi))
Stands set trace rows (SameAsBefore k) = (a : HasTwoRows rows k) × (a.row.delta ≡ a.before.delta)
    × (a.row.phi ≡ a.before.phi)
Stands set trace rows (BadMiss k) = (a : HasRow rows k)
    × ¬ ShowsDelta set trace (after_stretch rows trace.last k) a.row.delta a.row.miss
Stands set trace rows (BadGap k) = (a : HasRow rows k)
    × ¬ ShowsPhi set trace (after_stretch rows trace.last k) a.row.phi a.row.gap
Stands set trace rows (DeltaFails k m) = (a : HasRow rows k) × (¬ DeltaHolds set trace a.row.gst a.row.delta)
    × IsLongestMiss set trace a.row.gst m
Stands set trace rows (PhiFails k w) = (a : HasRow rows k) × (¬ PhiHolds set trace a.row.gst a.row.phi)
    × IsLongestGap set trace a.row.gst w

-- the place of a reason in the list of reasons
abbrev pub place_of : Reason → ℕ
place_of NoRows = 1
place_of FirstNotOne = 2
place_of (NotRising k) = 3
place_of (BeyondEnd k) = 4
place_of (NotNonIncreasing k) = 5
place_of (SameAsBefore k) = 6
place_of (BadMiss k) = 7
place_of (BadGap k) = 8
place_of (DeltaFails k m) = 9
place_of (PhiFails k w) = 10

-- the row of which a reason speaks; 0 if it speaks of none
abbrev pub row_of : Reason → ℕ
row_of NoRows = 0
row_of FirstNotOne = 0
row_of (NotRising k) = k
row_of (BeyondEnd k) = k
row_of (NotNonIncreasing k) = k
row_of (SameAsBefore k) = k
row_of (BadMiss k) = k
row_of (BadGap k) = k
row_of (DeltaFails k m) = k
row_of (PhiFails k w) = k

-- a comes before b, or speaks of the same: by their places in the list of reasons, then by row
abbrev pub IsNotAfter : Reason → Reason → Type 0
IsNotAfter a b = (place_of a < place_of b) ⊎ ((place_of a ≡ place_of b) × (row_of a ≤ row_of b))

-- the verdict on rows: Yes if no reason holds against them, else the first that does
abbrev pub IsVerdict : ℕ → Recorded → List Row → Verdict → Type 0
IsVerdict set trace rows Yes = (w : Reason) → ¬ Stands set trace rows w
IsVerdict set trace rows (No w) = Stands set trace rows w × ((o : Reason) → Stands set trace rows o → IsNotAfter w o)
