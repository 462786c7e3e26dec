-- The verdict on the decisions of a run (own).
use Rattle.std.specs.Prelude.{ℕ, ◌≡◌, ◌≤◌, ◌<◌, List, Bool, true, false, IsTrue}
use Rattle.std.specs.List.{count_by}
use Rattle.step_trace.specs.declared.rows.Row.{Row}
use Rattle.step_trace.specs.Traces.{Recorded}
use Rattle.step_trace.specs.Fronts.{IsReport, Triple}
use Rattle.decision_claims.specs.declared.decisions.Decision.{Decision}
use Rattle.decision_claims.specs.declared.lateness.Late.{Late}
use Rattle.decision_claims.specs.declared.margins.Tested.{Tested}
use Rattle.decision_claims.specs.Claims.{KeepsClaim, KeepsClaimInTime}
use Rattle.decision_claims.specs.Decisions.{Agree, AreFirstToDiffer, AreInitial, IsFirstForeign}
use Rattle.decision_claims.specs.Formulas.{Terms, deadline}
use Rattle.decision_claims.specs.LateRows.{is_due}
use Rattle.decision_claims.specs.Margins.{IsTested}
use Rattle.judged_runs.specs.declared.judgements.Demands.{Demands}
use Rattle.judged_runs.specs.declared.judgements.Verdict.{Verdict}
use Rattle.judged_runs.specs.declared.judgements.Verdict.TheVariants.{Yes, Differ, Foreign, LateBy, Untested}
use Rattle.judged_runs.specs.LateInTime.{IsLateByReport, IsLateInTime}

-- Nothing is wrong with agreement, and if it was asked with validity.
pub record AreSound (set : ℕ) (init : List ℕ) (decisions : List Decision) (valid : Bool) : Type 0 where
  pub agree : Agree set decisions
  pub initial : IsTrue valid → AreInitial set init decisions

-- the claim is kept: by the bounds of the whole run, or in time
abbrev pub Keeps : Bool → ℕ → Recorded → List Decision → (Triple → ℕ) → Type 0
Keeps true = KeepsClaim
Keeps false = KeepsClaimInTime

-- the claim is refuted by this, in either meaning
abbrev pub IsRefutedBy : Bool → ℕ → Recorded → List Decision → (Triple → ℕ) → Late → Type 0
IsRefutedBy true = IsLateByReport
IsRefutedBy false = IsLateInTime

-- The claim is kept, and this was tested of it by the rows of the report: at least so many of them are due.
pub record IsEnough (set : ℕ) (trace : Recorded) (decisions : List Decision) (deadline : Triple → ℕ) (due : ℕ)
    (tested : Tested) : Type 0 where
  pub rows : List Row
  pub report : IsReport set trace rows
  pub tested_is : IsTested set trace rows decisions deadline tested
  pub enough : due ≤ tested.due

-- Of the rows of the report this many are due, fewer than so many.
pub record AreTooFew (set : ℕ) (trace : Recorded) (deadline : Triple → ℕ) (due count : ℕ) : Type 0 where
  pub rows : List Row
  pub report : IsReport set trace rows
  pub count_is : count ≡ count_by (is_due trace deadline) rows
  pub few : count < due

-- nothing is wrong with the decisions, and the claim is kept
abbrev pub AreKept : ℕ → Recorded → List Decision → Terms → Demands → Type 0
AreKept set trace decisions terms d = AreSound set trace.config.init decisions d.valid
    × Keeps d.whole set trace decisions (deadline trace.config d.start terms)

-- The verdict names the first thing that is wrong: of agreement, of validity if it was asked, of the claim, and of how
-- much was tested.
abbrev pub IsVerdict : ℕ → Recorded → List Decision → Terms → Demands → Verdict → Type 0
IsVerdict set trace decisions terms d (Yes tested) = AreKept set trace decisions terms d
    × IsEnough set trace decisions (deadline trace.config d.start terms) d.due tested
IsVerdict set trace decisions terms d (Differ a b) = AreFirstToDiffer set decisions a b
IsVerdict set trace decisions terms d (Foreign x) = IsTrue d.valid × Agree set decisions
    × IsFirstForeign set trace.config.init decisions x
IsVerdict set trace decisions terms d (LateBy w) = AreSound set trace.config.init decisions d.valid
    × IsRefutedBy d.whole set trace decisions (deadline trace.config d.start terms) w
IsVerdict set trace decisions terms d (Untested count) = AreKept set trace decisions terms d
    × AreTooFew set trace (deadline trace.config d.start terms) d.due count
