use Rattle.std.proofs.Common.{◌<◌, length, get_or, ap, arith}
use Rattle.std.specs.Prelude.{pos}
use Rattle.event_log.specs.declared.packed_events.PackedEvent.{PackedEvent}
use Rattle.event_log.specs.declared.packed_events.PackedAct.TheVariants as packed
use Rattle.event_log.specs.Events.{SeenAct, received, resolved}
use Rattle.event_log.specs.PackedEvents.{IsWithin, unpacked}
use Rattle.event_log.proofs.PlacedEvents.{own-holds, placed-next, rest-next, within-next}
use Rattle.event_log.proofs.placed_events.place_all.Goals as goal

pub placed_act-requires : goal.placed_act-requires
placed_act-requires c =
    own-holds (IsWithin (length c.args.names.now)) c.args.events.now c.loop-i.events c.loop-i.i _
    c.loop-i.invariant.rest (omega arith) c.requires

pub loop-i-preserved : goal.loop-i-preserved
loop-i-preserved c =
    let sent = c.args.sent.now in
    let names = c.args.names.now in
    let old = c.args.events.now in
    let now = c.loop-i.events in
    let i = c.loop-i.i in
    let messages = c.loop-i.messages.items in
    let after = c.placed_act.new.messages.items in
    let inside : i < length now = omega arith in
    let none : PackedEvent = record { time = pos 0; processor = 0; act = packed.Send 0 } in
    let was = get_or now i none in
    let event : PackedEvent = record { time = was.time; processor = was.processor; act = c.in_ok-events.field-0 } in
    let more = received (resolved sent (unpacked names was)).act in
    let own =
    ap (λ (act : SeenAct). record { time = was.time; processor = was.processor; act = act })
    c.in_ok-events.ensures.placed in
    record {
      within =
          within-next messages more after now i event c.in_ok-events.ensures.messages inside
          c.loop-i.invariant.within c.in_ok-events.ensures.within;
      placed =
          placed-next sent names messages more after old now i none event c.in_ok-events.ensures.messages inside
          c.loop-i.invariant.rest c.loop-i.invariant.within c.loop-i.invariant.placed own;
      rest = rest-next old now i event c.loop-i.invariant.rest;
    }
