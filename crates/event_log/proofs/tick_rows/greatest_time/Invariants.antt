use Rattle.std.proofs.Common.{◌≡◌, take, fold}
use Rattle.std.specs.Int.{int_max}
use Rattle.timed_events.specs.Times.{first_time}
use Rattle.event_log.proofs.tick_rows.greatest_time.Given as goal

-- the greatest of the times so far
abbrev pub invariant-loop-event : goal.invariant-loop-event
invariant-loop-event l = l.greatest ≡ fold (λ x e. int_max x e.time) (first_time l.events) (take l.event-index l.events)
