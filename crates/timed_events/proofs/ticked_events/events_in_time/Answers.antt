use Rattle.std.proofs.Common.{◌∙◌}
use Rattle.timed_events.proofs.SpreadTraces.{own-ticks}
use Rattle.timed_events.proofs.ticked_events.events_in_time.Goals as goal

pub sorted_events-requires-clause-last : goal.sorted_events-requires-clause-last
sorted_events-requires-clause-last c = (own-ticks c.args.events.now
    c.args.clock.now c.deref.result.now c.requires.width c.in_ok-span.ensures.refused (c.deref.ensures.value ∙ c.in_ok-ticks.ensures)).2
