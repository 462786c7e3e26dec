use Rattle.bound_witness.proofs.MissSearches.{NoMissUntil}
use Rattle.bound_witness.proofs.communication_bounds.miss_of_length.Given as goal

abbrev pub invariant-loop-missed : goal.invariant-loop-missed
invariant-loop-missed l = NoMissUntil l.set l.trace l.span l.sent l.missed
