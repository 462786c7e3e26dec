use Rattle.std.proofs.Common.{◌≡◌, take, map}
use Rattle.lock_phases.specs.Nodes.{opening}
use Rattle.round_model.proofs.rounds.opening_nodes.Given as goal

abbrev pub invariant-loop-value : goal.invariant-loop-value
invariant-loop-value l = l.nodes.items ≡ map opening (take l.value-index l.value-items)
