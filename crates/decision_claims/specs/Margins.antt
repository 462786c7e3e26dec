-- What was tested of a claim that is kept, and by how many ticks it is (own).
use Rattle.std.specs.Prelude.{ℕ, ◌≡◌, ◌+◌, List, length, Option, Some, None}
use Rattle.std.specs.List.{count_by}
use Rattle.step_trace.specs.declared.rows.Row.{Row}
use Rattle.step_trace.specs.Traces.{Recorded}
use Rattle.step_trace.specs.Fronts.{Triple}
use Rattle.decision_claims.specs.declared.decisions.Decision.{Decision}
use Rattle.decision_claims.specs.declared.margins.Tested.{Tested}
use Rattle.decision_claims.specs.Decisions.{HaveDecidedBy, IsFrom}
use Rattle.decision_claims.specs.LateRows.{AreAllLater, IsLeastDue, is_due}

-- all members had decided so many ticks before the least deadline that is due
pub record IsMarginOf (set : ℕ) (trace : Recorded) (rows : List Row) (decisions : List Decision) (deadline : Triple → ℕ)
    (margin : ℕ) : Type 0 where
  pub decided : ℕ
  pub from_then : IsFrom (HaveDecidedBy set decisions) (Some decided)
  pub least : ℕ
  pub due : IsLeastDue trace rows deadline least
  pub between : decided + margin ≡ least

-- the margin; None if no deadline is due
abbrev pub IsMargin : ℕ → Recorded → List Row → List Decision → (Triple → ℕ) → Option ℕ → Type 0
IsMargin set trace rows decisions deadline None = AreAllLater trace rows deadline
IsMargin set trace rows decisions deadline (Some margin) = IsMarginOf set trace rows decisions deadline margin

-- How many rows were due, how many come later, and the margin.
pub record IsTested (set : ℕ) (trace : Recorded) (rows : List Row) (decisions : List Decision) (deadline : Triple → ℕ)
    (tested : Tested) : Type 0 where
  pub due : tested.due ≡ count_by (is_due trace deadline) rows
  pub later : tested.due + tested.later ≡ length rows
  pub margin : IsMargin set trace rows decisions deadline tested.margin
