use Rattle.step_buffers.specs.Worlds.{IsProcessor}
use Rattle.step_buffers.proofs.KeptInboxes.{IsInbox-moved}
use Rattle.step_buffers.proofs.receives.turned_node.Goals as goal
use Rattle.step_buffers.proofs.receives.turned_node.Goals.{After-gather}

moved : (c : After-gather)
    → IsProcessor c.args.trace.now.config c.args.trace.now.steps c.args.p (record c.args.receiver.now { inbox = c.gather.new.self })
moved c = record {
  stands = c.requires.receiver.stands;
  buffer = c.requires.receiver.buffer;
  inbox = IsInbox-moved c.args.trace.now.steps c.args.p
      c.args.receiver.now.round c.args.receiver.now.inbox _ _ c.gather.ensures.moved c.requires.receiver.inbox;
}

pub returns-in_err-gather-clause-receiver : goal.returns-in_err-gather-clause-receiver
returns-in_err-gather-clause-receiver c = moved (goal.at.returns-in_err-gather-clause-receiver c).After-gather

pub computed-requires-clause-receiver : goal.computed-requires-clause-receiver
computed-requires-clause-receiver c = moved (goal.at.computed-requires-clause-receiver c).After-gather

pub returns-in_err-node-clause-receiver : goal.returns-in_err-node-clause-receiver
returns-in_err-node-clause-receiver c = moved (goal.at.returns-in_err-node-clause-receiver c).After-gather

pub returns-clause-receiver : goal.returns-clause-receiver
returns-clause-receiver c = moved (goal.at.returns-clause-receiver c).After-gather
