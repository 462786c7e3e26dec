use Rattle.std.proofs.Common.{arith}
use Rattle.decision_claims.specs.Formulas.{deadline}
use Rattle.decision_claims.proofs.LateRows.{due_all, due_here, due_later}
use Rattle.decision_claims.proofs.lateness.least_due.Goals as goal
use Rattle.decision_claims.proofs.lateness.least_due.Goals.{in-Some, in_default}

pub loop-k-preserved : goal.loop-k-preserved
loop-k-preserved c =
    let here = c.loop-k-test.true in
    let trace = c.args.trace.now in
    let due = deadline trace.config c.args.start c.args.formula.now in
    record {
      inside = omega (arith, here);
      least = elim c.match-due_deadline.branch [
        | in-Some w ↦ rw w.least-is
            (due_here trace c.args.rows.now due c.loop-k.k w.in-Some.deadline w.earlier.result c.loop-k.least here
            w.in-Some.ensures.0 w.in-Some.ensures.1 w.earlier.ensures c.loop-k.invariant.least)
        | in_default w ↦ rw w.least-is
            (due_later trace c.args.rows.now due c.loop-k.k c.loop-k.least here w.in_default.ensures c.loop-k.invariant.least)
      ];
    }

pub returns : goal.returns
returns c = due_all c.args.trace.now c.args.rows.now _ c.loop-k.k c.loop-k.least c.loop-k-test.false c.loop-k.invariant.least
