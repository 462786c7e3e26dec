use Rattle.bound_witness.proofs.GapSearches.{AllStepFrom}
use Rattle.bound_witness.proofs.processor_bounds.last_gap_of_length.Given as goal

abbrev pub invariant-loop-from : goal.invariant-loop-from
invariant-loop-from l = AllStepFrom l.set l.trace l.span l.from
