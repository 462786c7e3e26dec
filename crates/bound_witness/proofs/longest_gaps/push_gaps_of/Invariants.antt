use Rattle.bound_witness.proofs.GapLists.{IsScanned}
use Rattle.bound_witness.proofs.longest_gaps.push_gaps_of.Given as goal

abbrev pub invariant-loop-no : goal.invariant-loop-no
invariant-loop-no l = IsScanned l.fn.set l.trace l.p l.last l.no l.found.items
