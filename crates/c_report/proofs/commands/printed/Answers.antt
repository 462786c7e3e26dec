use Rattle.std.proofs.Common.{inr}
use Rattle.std.proofs.lemmas.Result.{IfErr-weaker, IfOk-weaker}
use Rattle.c_report.proofs.commands.printed.Goals as goal

-- src/commands.rt:67:1
pub returns-clause-printed : goal.returns-clause-printed
returns-clause-printed c = IfOk-weaker c.printed_for.result _ _
    (λ p printed. record { job = c.in_ok-job.job; asked = c.in_ok-job.ensures.job; printed = printed }) c.printed_for.ensures.printed

-- src/commands.rt:67:1
pub returns-clause-refused : goal.returns-clause-refused
returns-clause-refused c = IfErr-weaker c.printed_for.result _ _
    (λ w cause. inr (record { job = c.in_ok-job.job; asked = c.in_ok-job.ensures.job; cause = cause })) c.printed_for.ensures.refused
