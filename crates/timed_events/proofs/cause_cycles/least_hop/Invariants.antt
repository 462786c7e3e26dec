use Rattle.timed_events.proofs.TurnedCycles.{IsLeastOf}
use Rattle.timed_events.proofs.cause_cycles.least_hop.Given as goal

abbrev pub invariant-loop-k : goal.invariant-loop-k
invariant-loop-k l = IsLeastOf l.hops l.k l.least
