use Rattle.lock_phases.proofs.SendingLaws.{list-sent, list-has, lock-sent, acknowledgement-sent, locks-sent, sent-addressed}
use Rattle.lock_phases.proofs.SentBodies.{out-said_by}
use Rattle.lock_phases.proofs.laws.sending_laws.Goals as goal

pub returns-clause-list : goal.returns-clause-list
returns-clause-list c = list-sent

pub returns-clause-listed : goal.returns-clause-listed
returns-clause-listed c = list-has

pub returns-clause-lock : goal.returns-clause-lock
returns-clause-lock c = lock-sent

pub returns-clause-acknowledgement : goal.returns-clause-acknowledgement
returns-clause-acknowledgement c = acknowledgement-sent

pub returns-clause-locks : goal.returns-clause-locks
returns-clause-locks c = locks-sent

pub returns-clause-said : goal.returns-clause-said
returns-clause-said c = out-said_by

pub returns-clause-addressed : goal.returns-clause-addressed
returns-clause-addressed c = sent-addressed
