use Rattle.event_log.proofs.KeptEvents.{AreKeptTo}
use Rattle.event_log.proofs.kept_events.kept_at.Given as goal

-- the events at the places so far are in front
abbrev pub invariant-loop-k : goal.invariant-loop-k
invariant-loop-k l = AreKeptTo l.fn.events.items l.kept.items l.places l.k
