use Rattle.timed_events.proofs.TickedEvents.{ticked-in_time}
use Rattle.timed_events.proofs.ticked_events.event_ticks.Goals as goal

pub returns-clause-ticked : goal.returns-clause-ticked
returns-clause-ticked c =
    let is = c.in_ok-ticked.ensures in
    ticked-in_time c.args.spread c.args.events.now c.args.clock.now
    c.in_ok-ticked.ticked c.if-spread.false c.requires.some c.requires.width is.refused is.ticks is.last is.moved is.order
