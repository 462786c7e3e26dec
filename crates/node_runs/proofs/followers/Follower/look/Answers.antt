use Rattle.std.proofs.Common.{arith, inr}
use Rattle.node_runs.proofs.ToldLines.{begun_as, line_of_run, told_nothing, told_one}
use Rattle.node_runs.proofs.followers.Follower.look.Goals as goal

pub returns-in-Ok-clause-told : goal.returns-in-Ok-clause-told
returns-in-Ok-clause-told g c = told_one _ _ _ _ _ (begun_as _ _ _ _ (line_of_run _
    _ c.in-Ok.prefix.trace c.in-Ok.ensures.run c.in-Ok.prefix.decisions.items c.in-Ok.ensures.decided _ _) c.tell_due.ensures.told)

pub returns-in-Err-Memory-clause-told : goal.returns-in-Err-Memory-clause-told
returns-in-Err-Memory-clause-told g c = told_one _ _ _ _ _ (begun_as _ _ _ _ (λ line h. inr (omega arith, inr h)) c.stop.ensures.told)

pub returns-in_default-clause-told : goal.returns-in_default-clause-told
returns-in_default-clause-told g c = told_nothing _ _ _

pub returns-then-not-is_due-clause-told : goal.returns-then-not-is_due-clause-told
returns-then-not-is_due-clause-told g c = told_nothing _ _ _

pub returns-clause-told : goal.returns-clause-told
returns-clause-told g c = told_nothing _ _ _
