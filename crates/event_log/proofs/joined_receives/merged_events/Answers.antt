use Rattle.event_log.proofs.JoinedEvents.{firsts-rising}
use Rattle.event_log.proofs.joined_receives.merged_events.Goals as goal

pub joined_events-requires-clause-rising : goal.joined_events-requires-clause-rising
joined_events-requires-clause-rising c = firsts-rising c.as_slice.result.now c.args.clock.now _ _ c.in_ok-parts.ensures.merged
