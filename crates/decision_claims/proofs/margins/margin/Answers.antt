use Rattle.std.proofs.Common.{arith}
use Rattle.decision_claims.proofs.LateRows.{decided_by_least}
use Rattle.decision_claims.proofs.margins.margin.Goals as goal

-- all had decided by the least deadline that is due
pub returns-in_default-latest_decision : goal.returns-in_default-latest_decision
returns-in_default-latest_decision c = λ kept. absurd (c.in_default-latest_decision.ensures c.in-Some.least
    (decided_by_least c.args.set c.args.trace.now c.args.rows.now c.args.decisions.now _ c.in-Some.least kept c.in-Some.ensures))

pub returns-else-decided-least : goal.returns-else-decided-least
returns-else-decided-least c = λ kept.
    let by = (c.in-Some-latest_decision.ensures c.in-Some.least).0
    (decided_by_least c.args.set c.args.trace.now c.args.rows.now c.args.decisions.now _ c.in-Some.least kept c.in-Some.ensures) in
    let late = c.if-decided-least.false in
    absurd (omega (arith, by, late))
