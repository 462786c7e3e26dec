use Rattle.event_log.proofs.PlacedErrors.{placed-error}
use Rattle.event_log.proofs.left_refusals.event_error.Goals as goal

pub cycle_error-requires-clause-behind : goal.cycle_error-requires-clause-behind
cycle_error-requires-clause-behind c = c.requires.behind c.in-Cycle.event c.in-Cycle.is

pub placed_error-requires-clause-other : goal.placed_error-requires-clause-other
placed_error-requires-clause-other c = c.in_default.not-Cycle

pub returns-in_default : goal.returns-in_default
returns-in_default c =
    let log = c.args.log.now in
    let left = c.args.left.now in
    placed-error c.args.text.now log.nodes log.events.items
    left.events.items left.places.items left.parts c.args.why c.placed_error.result c.in_default.not-Cycle c.placed_error.ensures
