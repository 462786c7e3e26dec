use Rattle.lock_phases.proofs.OriginLaws.{proper-taken_in, proposal-origin, decision-origin, decision-stays, rising-stays}
use Rattle.lock_phases.proofs.laws.origin_laws.Goals as goal

pub returns-clause-proper : goal.returns-clause-proper
returns-clause-proper c = proper-taken_in

pub returns-clause-proposal : goal.returns-clause-proposal
returns-clause-proposal c = proposal-origin

pub returns-clause-decision : goal.returns-clause-decision
returns-clause-decision c = decision-origin

pub returns-clause-stays : goal.returns-clause-stays
returns-clause-stays c = decision-stays

pub returns-clause-rising : goal.returns-clause-rising
returns-clause-rising c = rising-stays
