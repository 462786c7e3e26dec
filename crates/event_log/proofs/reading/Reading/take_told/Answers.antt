use Rattle.std.proofs.Common.{◌∙◌}
use Rattle.event_log.proofs.ToldLines.{full-row}
use Rattle.event_log.proofs.reading.Reading.take_told.Goals as goal

pub returns-then-self-ge-MAX_EVENTS : goal.returns-then-self-ge-MAX_EVENTS
returns-then-self-ge-MAX_EVENTS c = c.loop-told.invariant
    ∙ full-row c.loop-told.self c.args.rows.now c.loop-told.told-index c.loop-told-test.true c.if-self-ge-MAX_EVENTS.true
