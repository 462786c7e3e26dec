use Rattle.bound_witness.proofs.MissSearches.{NoMissFrom}
use Rattle.bound_witness.proofs.communication_bounds.last_miss_of_length.Given as goal

abbrev pub invariant-loop-sent : goal.invariant-loop-sent
invariant-loop-sent l = NoMissFrom l.set l.trace l.g l.span l.sent
