use Rattle.std.proofs.Common.{slice_index_or, arith}
use Rattle.event_log.specs.Merges.{receiving}
use Rattle.event_log.proofs.JoinedEvents.{changed-inside, changed-past, received-by, sent-as_before}
use Rattle.event_log.proofs.joined_receives.give.Goals as goal

pub returns-then-event-events : goal.returns-then-event-events
returns-then-event-events c = changed-past c.args.receive.event (receiving c.args.receive.messages) c.args.events.now c.if-event-events.true

pub returns-in-Send : goal.returns-in-Send
returns-in-Send c =
    let d = c.index-events-event.result in
    let e = slice_index_or c.args.events.now c.args.receive.event d in
    changed-inside c.args.receive.event (receiving c.args.receive.messages) c.args.events.now d e
    (let l = c.if-event-events.false in omega (arith, l))
    (sent-as_before c.args.receive.messages e c.in-Send.to c.in-Send.is)

pub returns-in-Receive : goal.returns-in-Receive
returns-in-Receive c =
    let d = c.index-events-event.result in
    let e = slice_index_or c.args.events.now c.args.receive.event d in
    changed-inside c.args.receive.event (receiving c.args.receive.messages) c.args.events.now d _
    (let l = c.if-event-events.false in omega (arith, l))
    (received-by c.args.receive.messages e c.in-Receive.messages c.in-Receive.is)
