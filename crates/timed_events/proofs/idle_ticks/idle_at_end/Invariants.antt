use Rattle.timed_events.specs.IdleWalks.{HaveEnded}
use Rattle.timed_events.proofs.idle_ticks.idle_at_end.Given as goal

abbrev pub invariant-loop-processor : goal.invariant-loop-processor
invariant-loop-processor l = HaveEnded l.n l.events l.ticks l.lasts l.last l.limit l.processor l.idles.items
