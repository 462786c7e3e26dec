-- What searches for the first reason find (own).
use Rattle.std.specs.Prelude.{ℕ, ◌≡◌, ◌<◌, ◌≤◌, List, Option, Some, None}
use Rattle.step_trace.specs.declared.rows.Row.{Row}
use Rattle.step_trace.specs.Traces.{Recorded}
use Rattle.certificate_checker.specs.declared.verdicts.Reason.{Reason}
use Rattle.step_trace.specs.ReportRows.{row_at}
use Rattle.certificate_checker.specs.Verdicts.{Stands, place_of, IsNotAfter}

-- the first number of which this is so; None if there is none
abbrev pub IsFirst : (ℕ → Type 0) → Option ℕ → Type 0
IsFirst P None = (k : ℕ) → ¬ P k
IsFirst P (Some k) = P k × ((j : ℕ) → P j → k ≤ j)

-- the first number of which this is so, with what it is so of
abbrev pub IsFirstWith : {X : Type 0} → (ℕ → X → Type 0) → Option (ℕ × X) → Type 0
IsFirstWith P None = (k : ℕ) (x : _) → ¬ P k x
IsFirstWith P (Some f) = P f.0 f.1 × ((j : ℕ) (x : _) → P j x → f.0 ≤ j)

-- the first reason that holds of those with these places in the list of reasons; None if none of them holds
abbrev pub IsFirstReason : ℕ → Recorded → List Row → ℕ → ℕ → Option Reason → Type 0
IsFirstReason set trace rows low high None = (o : Reason) → low ≤ place_of o → place_of o ≤ high
    → ¬ Stands set trace rows o
IsFirstReason set trace rows low high (Some w) = Stands set trace rows w
    × ((o : Reason) → low ≤ place_of o → Stands set trace rows o → IsNotAfter w o)

-- the rows' stabilization times rise, and are ticks of the trace
pub record AreInOrder (rows : List Row) (last : ℕ) : Type 0 where
  pub rising : (j k : ℕ) (a b : Row) → j < k → row_at rows j ≡ Some a → row_at rows k ≡ Some b → a.gst < b.gst
  pub start : (k : ℕ) (r : Row) → row_at rows k ≡ Some r → 1 ≤ r.gst
  pub end : (k : ℕ) (r : Row) → row_at rows k ≡ Some r → r.gst ≤ last
