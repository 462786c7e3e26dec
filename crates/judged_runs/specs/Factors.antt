-- The least factor with which a claim is kept in time (own).
use Rattle.std.specs.Prelude.{ℕ, ◌≤◌, ◌<◌, List, Option, Some, None}
use Rattle.step_trace.specs.Traces.{Recorded}
use Rattle.step_trace.specs.Fronts.{Triple}
use Rattle.decision_claims.specs.declared.decisions.Decision.{Decision}
use Rattle.decision_claims.specs.Claims.{KeepsClaimInTime}
use Rattle.judged_runs.specs.declared.factors.Measured.{Measured}
use Rattle.judged_runs.specs.LateInTime.{IsAhead}

-- no smaller factor is enough in time; None if none is
abbrev pub IsNeeded : ℕ → Recorded → List Decision → (ℕ → Triple → ℕ) → Option ℕ → Type 0
IsNeeded set trace decisions due None = (c : ℕ) → ¬ KeepsClaimInTime set trace decisions (due c)
IsNeeded set trace decisions due (Some needed) = (c : ℕ) → KeepsClaimInTime set trace decisions (due c) → needed ≤ c

-- No smaller factor is enough. With this one the search for a late deadline would go on here.
pub record IsReached (set : ℕ) (trace : Recorded) (decisions : List Decision) (due : ℕ → Triple → ℕ)
    (m : Measured) : Type 0 where
  pub needed : IsNeeded set trace decisions due (Some m.factor)
  pub ahead : IsAhead set trace decisions (due m.factor) m.ahead

-- what a look at the prefix that ends in tick x finds; None if no factor is enough
abbrev pub IsMeasured : ℕ → Recorded → List Decision → (ℕ → Triple → ℕ) → ℕ → Option Measured → Type 0
IsMeasured set trace decisions due x None = IsNeeded set trace decisions due None
IsMeasured set trace decisions due x (Some m) = (x < m.ahead.tick) × IsReached set trace decisions due m
