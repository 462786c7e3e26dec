use Rattle.event_log.specs.PackedEvents.{lent_event}
use Rattle.event_log.proofs.PackedEvents.{pushed, pushed-within}
use Rattle.event_log.proofs.packed_events.PackedEvents.push.Goals as goal

pub invariant_of-self-2 : goal.invariant_of-self-2
invariant_of-self-2 c = rw (
  c.push_reserved.ensures.items,
  c.in_ok-extend_from_slice.ensures.items,
  c.reserve.ensures.items,
  c.names_of.ensures,
  c.in_ok-packed.ensures,
  c.len.ensures,
  c.self.inside.names.ok.0,
)
    (pushed-within c.self.inside.names.items c.self.inside.events.items (lent_event c.args.event.now) c.self.invariant)

pub returns : goal.returns
returns c = rw (
  c.push_reserved.ensures.items,
  c.in_ok-extend_from_slice.ensures.items,
  c.reserve.ensures.items,
  c.names_of.ensures,
  c.in_ok-packed.ensures,
  c.len.ensures,
  c.self.inside.names.ok.0,
  ← c.self.view_is,
)
    (pushed c.self.inside.names.items c.self.inside.events.items (lent_event c.args.event.now) c.self.invariant)
