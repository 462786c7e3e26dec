use Rattle.std.proofs.Common.{sym}
use Rattle.certificate_checker.proofs.ReasonOrder.{AreInOrder-from_none, verdict_some}
use Rattle.certificate_checker.proofs.certificates.verdict_on.Goals as goal

pub returns-in-Some-clause-verdict : goal.returns-in-Some-clause-verdict
returns-in-Some-clause-verdict c = verdict_some c.args.set c.args.trace.now c.args.rows.now 6 c.in-Some.why
    (c.in-Some.ensures c.args.set c.args.trace.now (sym c.last_tick.ensures.value))

pub step_reason-requires-clause-order : goal.step_reason-requires-clause-order
step_reason-requires-clause-order c = AreInOrder-from_none c.args.set c.args.trace.now c.args.rows.now
    (c.in_default.ensures c.args.set c.args.trace.now (sym c.last_tick.ensures.value))
