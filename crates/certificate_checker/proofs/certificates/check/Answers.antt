use Rattle.std.proofs.lemmas.Result.{IfOk-weaker}
use Rattle.certificate_checker.proofs.VerdictLaws.{Certifies-from_verdict, IsVerdict-report}
use Rattle.certificate_checker.proofs.certificates.check.Goals as goal

pub returns-clause-certifies : goal.returns-clause-certifies
returns-clause-certifies c = IfOk-weaker c.verdict_on.result _ _
    (Certifies-from_verdict c.args.set c.args.trace.now c.args.rows.now) c.verdict_on.ensures.verdict

pub returns-clause-accepts : goal.returns-clause-accepts
returns-clause-accepts c = λ report. IfOk-weaker c.verdict_on.result _ _
    (IsVerdict-report c.args.set c.args.trace.now c.args.rows.now report) c.verdict_on.ensures.verdict
