use Rattle.std.proofs.Common.{◌≤◌, length}
use Rattle.decision_claims.specs.Formulas.{deadline}
use Rattle.decision_claims.proofs.LateRows.{DueBefore}
use Rattle.decision_claims.proofs.lateness.least_due.Given as goal

-- the rows before place k are scanned
abbrev pub invariant-loop-k : goal.invariant-loop-k
invariant-loop-k l =
    record { inside : l.k ≤ length l.rows; least : DueBefore l.trace l.rows (deadline l.trace.config l.start l.formula) l.k l.least }
