use Rattle.bound_witness.specs.LongestGaps.{ListsGapsBy}
use Rattle.bound_witness.proofs.longest_gaps.gaps.Given as goal

abbrev pub invariant-loop-p : goal.invariant-loop-p
invariant-loop-p l = ListsGapsBy l.set l.trace l.p 0 l.found.items
