use Rattle.std.proofs.Common.{ℕ, List, subst}
use Rattle.timed_events.specs.declared.events.Event.{Event}
use Rattle.event_log.specs.LeftRefusals.{IsPlacedErrorUnlessMemory}
use Rattle.event_log.proofs.OneLog.{aligned-log-once}
use Rattle.event_log.proofs.left_refusals.told_again.Goals as goal

pub left_error-requires-clause-parts : goal.left_error-requires-clause-parts
left_error-requires-clause-parts g c = c.requires.parts c.in-Ok.log.nodes c.in-Ok.log.events.items c.in-Ok.ensures.again

pub returns-in-Ok : goal.returns-in-Ok
returns-in-Ok g c = λ nodes events again.
    let left = c.args.left.now in
    let log = c.in-Ok.log in
    let same = aligned-log-once c.args.options.now c.args.text.now log.nodes nodes log.events.items events c.in-Ok.ensures.again again in
    subst (λ (ns : List (List ℕ)). IsPlacedErrorUnlessMemory
    c.args.text.now ns events left.events.items left.places.items left.parts c.args.why c.left_error.result) same.0
    (subst (λ (es : List Event). IsPlacedErrorUnlessMemory c.args.text.now
    log.nodes es left.events.items left.places.items left.parts c.args.why c.left_error.result) same.1 c.left_error.ensures)
