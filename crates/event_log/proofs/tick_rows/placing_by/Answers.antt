use Rattle.std.proofs.Common.{true}
use Rattle.event_log.proofs.StepPlaces.{places-long}
use Rattle.event_log.proofs.tick_rows.placing_by.Goals as goal

pub placing_of-requires-clause-long : goal.placing_of-requires-clause-long
placing_of-requires-clause-long c =
    let placed = c.in_ok-placed.placed in
    places-long true c.args.n c.args.events.now c.args.clock.now
    placed.timed placed.places.items c.in_ok-placed.ensures.trace c.in_ok-placed.ensures.places
