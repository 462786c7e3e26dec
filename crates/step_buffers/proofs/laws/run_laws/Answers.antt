use Rattle.step_buffers.proofs.DecidedRounds.{Agree-node_at, DecidesInitialValue-node_at, decision-stays_longer}
use Rattle.step_buffers.proofs.HeardSenders.{state_after-prefix}
use Rattle.step_buffers.proofs.GrownNodes.{IsRun-prefix}
use Rattle.step_buffers.proofs.laws.run_laws.Goals as goal

pub returns-clause-agreement : goal.returns-clause-agreement
returns-clause-agreement c = Agree-node_at

pub returns-clause-validity : goal.returns-clause-validity
returns-clause-validity c = DecidesInitialValue-node_at

pub returns-clause-stays : goal.returns-clause-stays
returns-clause-stays c = decision-stays_longer

pub returns-clause-nodes : goal.returns-clause-nodes
returns-clause-nodes c = state_after-prefix

pub returns-clause-prefix : goal.returns-clause-prefix
returns-clause-prefix c = IsRun-prefix
