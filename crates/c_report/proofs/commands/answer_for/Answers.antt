use Rattle.std.proofs.Common.{inr}
use Rattle.std.proofs.lemmas.Result.{IfOk-weaker}
use Rattle.c_report.proofs.commands.answer_for.Goals as goal

-- src/commands.rt:52:1
pub returns-in-Err : goal.returns-in-Err
returns-in-Err c = IfOk-weaker c.told.result _ _ (λ p told. record {
  there = p.there;
  exact = inr (record { fault = c.in-Err.fault; cause = c.in-Err.ensures.refused; told = told });
}) c.told.ensures
