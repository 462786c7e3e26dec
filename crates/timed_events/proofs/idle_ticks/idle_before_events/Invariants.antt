use Rattle.timed_events.specs.IdleWalks.{IsWalkedTo}
use Rattle.timed_events.proofs.idle_ticks.idle_before_events.Given as goal

abbrev pub invariant-loop-k : goal.invariant-loop-k
invariant-loop-k l = IsWalkedTo l.events l.ticks l.order l.limit l.k l.lasts.items l.idles.items
