use Rattle.timed_events.proofs.OneIdle.{IsIdleTimed-unique, steps-filled}
use Rattle.timed_events.proofs.laws.idle_laws.Goals as goal

pub returns-clause-idle_once : goal.returns-clause-idle_once
returns-clause-idle_once c = IsIdleTimed-unique

pub returns-clause-filled : goal.returns-clause-filled
returns-clause-filled c = steps-filled
