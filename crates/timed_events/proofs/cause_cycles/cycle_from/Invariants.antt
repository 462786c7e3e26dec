use Rattle.timed_events.specs.CausalWalks.{zeros}
use Rattle.timed_events.proofs.CauseCycles.{IsPath}
use Rattle.timed_events.proofs.cause_cycles.cycle_from.Given as goal

abbrev pub invariant-loop-event : goal.invariant-loop-event
invariant-loop-event l = IsPath l.events l.walk.heads.items l.path.items l.seen.items l.at

abbrev pub decreases-loop-event : goal.decreases-loop-event
decreases-loop-event l = zeros l.seen.items
