-- What the records of decisions give so far (own).
use Rattle.std.specs.Prelude.{ℕ, List, Option}
use Rattle.decision_claims.specs.declared.decisions.Decision.{Decision}

-- how many processors and which last tick the decisions have to fit, and those that were read; None before the header
pub record SoFar : Type 0 where
  pub n : ℕ
  pub last : ℕ
  pub decisions : Option (List Decision)
