-- What is printed of a judgement (docs/FORMATS.md): the line of its verdict, and then the details that are asked for.
use Rattle.std.specs.Prelude.{ℕ, ◌≡◌, List, [], ◌∷◌, ◌++◌, Bool, true, false, Option, Some, None, codes}
use Rattle.step_trace.specs.Traces.{Recorded}
use Rattle.decision_claims.specs.declared.decisions.Decision.{Decision}
use Rattle.decision_claims.specs.Claims.{deadline_times}
use Rattle.decision_claims.specs.Decisions.{IsFrom}
use Rattle.decision_claims.specs.Formulas.{Terms, deadline}
use Rattle.judged_runs.specs.declared.details.Details.{Details}
use Rattle.judged_runs.specs.declared.judgements.Demands.{Demands}
use Rattle.judged_runs.specs.declared.judgements.Verdict.{Verdict}
use Rattle.judged_runs.specs.DeadlineRows.{IsRowsText}
use Rattle.judged_runs.specs.Judgements.{IsVerdict, Keeps}
use Rattle.judged_runs.specs.VerdictLines.{more, told_verdict}

-- the line of a least factor, with its line feed; None if no factor is enough
abbrev pub told_factor : Option ℕ → List ℕ
told_factor None = codes "factor none" ++ 10 ∷ []
told_factor (Some c) = codes "factor" ++ (more c ++ 10 ∷ [])

-- The text is the line of the least factor with which the claim is kept, in the meaning that is demanded.
pub record IsFactorLine (set : ℕ) (trace : Recorded) (decisions : List Decision) (terms : Terms) (d : Demands)
    (text : List ℕ) : Type 0 where
  pub factor : Option ℕ
  pub least : IsFrom (λ c. Keeps d.whole set trace decisions (deadline_times trace.config d.start terms c)) factor
  pub told : text ≡ told_factor factor

-- a text that is right if it is asked for, and else nothing
abbrev pub IsAsked : Bool → (List ℕ → Type 0) → List ℕ → Type 0
IsAsked true Right text = Right text
IsAsked false Right text = text ≡ []

-- The text has the details that are asked for: the factor, and then the rows.
pub record AreDetails (set : ℕ) (trace : Recorded) (decisions : List Decision) (terms : Terms) (d : Demands)
    (details : Details) (text : List ℕ) : Type 0 where
  pub factor : List ℕ
  pub rows : List ℕ
  pub of_factor : IsAsked details.factor (IsFactorLine set trace decisions terms d) factor
  pub of_rows : IsAsked details.rows (IsRowsText set trace decisions (deadline trace.config d.start terms)) rows
  pub told : text ≡ factor ++ rows

-- This is the verdict, and the text has its line and the details.
pub record IsJudgement (set : ℕ) (trace : Recorded) (decisions : List Decision) (terms : Terms) (d : Demands)
    (details : Details) (v : Verdict) (text : List ℕ) : Type 0 where
  pub exact : IsVerdict set trace decisions terms d v
  pub after : List ℕ
  pub detailed : AreDetails set trace decisions terms d details after
  pub told : text ≡ told_verdict v ++ after
