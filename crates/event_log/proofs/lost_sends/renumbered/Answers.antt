use Rattle.std.proofs.Common.{◌<◌, length, List, subst}
use Rattle.timed_events.specs.declared.events.Event.{Event}
use Rattle.event_log.specs.LostSends.{left_event}
use Rattle.event_log.proofs.KeptEvents.{seen-next}
use Rattle.event_log.proofs.lost_sends.renumbered.Goals as goal

pub loop-event-preserved : goal.loop-event-preserved
loop-event-preserved c =
    let old = c.args.events.items in
    let now = c.loop-event.event-items in
    let inside : c.loop-event.event-index < length old =
    subst (λ (xs : List Event). c.loop-event.event-index < length xs) c.deref_mut-event-items.ensures.value c.loop-event-test.true in
    seen-next (left_event c.args.places.now) old now
    c.loop-event.event-index c.event-item.result c.renumber.new.event inside c.loop-event.invariant c.in_ok-renumber.ensures
