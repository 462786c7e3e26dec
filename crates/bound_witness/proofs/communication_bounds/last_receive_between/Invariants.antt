use Rattle.bound_witness.proofs.ReceiveSearches.{NoReceiveFrom}
use Rattle.bound_witness.proofs.communication_bounds.last_receive_between.Given as goal

abbrev pub invariant-loop-no : goal.invariant-loop-no
invariant-loop-no l = NoReceiveFrom l.trace l.p l.from l.before l.no
