-- What was found of a claim, in the words of a verdict.
use Rattle.std.proofs.Common.{ℕ, ◌≡◌, List, Option, Some, None, Result, Ok, Err, IfOk, IfSome}
use Rattle.step_trace.specs.declared.rows.Row.{Row}
use Rattle.step_trace.specs.Traces.{Recorded}
use Rattle.step_trace.specs.Fronts.{IsReport, Triple}
use Rattle.decision_claims.specs.declared.decisions.Decision.{Decision}
use Rattle.decision_claims.specs.declared.lateness.Late.{Late}
use Rattle.decision_claims.specs.LateRows.{IsFirstLate}
use Rattle.judged_runs.specs.LateInTime.{IsLateByReport}

-- what follows from what was found
pub IfOk-weaker : {X E : Type 0} (P Q : X → Type 0) (r : Result X E) → ((x : X) → P x → Q x) → IfOk r P → IfOk r Q
IfOk-weaker P Q (Ok x) h s = h x s
IfOk-weaker P Q (Err e) h s = tt

-- the first late row of the report refutes the claim
pub late_in_whole : (set : ℕ) (trace : Recorded) (end : ℕ) (rows : List Row) (decisions : List Decision)
    (due : Triple → ℕ) (found : Option Late) → IsReport set trace rows → trace.last ≡ end → IfSome found (λ w. (run : Recorded)
    → run.last ≡ end → IsFirstLate set run rows decisions due w) → IfSome found (IsLateByReport set trace decisions due)
late_in_whole set trace end rows decisions due None report ends s = tt
late_in_whole set trace end rows decisions due (Some w) report ends s = record { rows = rows; report = report; first = s trace ends }
