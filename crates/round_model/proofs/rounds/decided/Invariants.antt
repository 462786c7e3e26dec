use Rattle.std.proofs.Common.{◌≡◌, drop}
use Rattle.round_model.specs.NodeLists.{first_decision}
use Rattle.round_model.proofs.rounds.decided.Given as goal

abbrev pub invariant-loop-node : goal.invariant-loop-node
invariant-loop-node l = first_decision (drop l.node-index l.nodes) ≡ first_decision l.nodes
