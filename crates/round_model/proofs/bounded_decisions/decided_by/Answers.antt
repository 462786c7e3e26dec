use Rattle.round_model.proofs.BoundedDecisions.{HaveDecided-state_after, HoldOneValue-state_after, LocksAreProper-state_after}
use Rattle.round_model.proofs.bounded_decisions.decided_by.Goals as goal

pub returns-clause-decided : goal.returns-clause-decided
returns-clause-decided c = HaveDecided-state_after

pub returns-clause-one_lock : goal.returns-clause-one_lock
returns-clause-one_lock c = HoldOneValue-state_after

pub returns-clause-proper : goal.returns-clause-proper
returns-clause-proper c = LocksAreProper-state_after
