use Rattle.std.proofs.Common.{◌∙◌, ◌++◌, length, ap, sym, arith}
use Rattle.std.specs.List.{flat_map}
use Rattle.std.proofs.lemmas.List.{take_all}
use Rattle.std.proofs.lemmas.Result.{err_from_is_err_and}
use Rattle.timed_events.specs.Received.{hop_in}
use Rattle.timed_events.proofs.CausalWalks.{messages-read}
use Rattle.timed_events.proofs.SomeHops.{some-piece}
use Rattle.timed_events.proofs.received.push_hops.Goals as goal

pub returns-in_err-push_hop-clause-some : goal.returns-in_err-push_hop-clause-some
returns-in_err-push_hop-clause-some c =
    let ms = messages-read c.args.events.now c.args.place c.index-events-place.result c.messages-messages.result.now
    (omega arith) c.index-events-place.is c.messages-messages.ensures in
    let p = err_from_is_err_and c.from_residual.result c.from_residual.ensures.1 in
    rw p.1 (rw (sym ms) (some-piece (hop_in (length c.args.events.now) c.args.place) c.messages-messages.result.now
    c.loop-message.message-index _ c.loop-message-test.true c.in_err-push_hop.ensures.some))

pub returns-clause-more : goal.returns-clause-more
returns-clause-more c =
    let ms = messages-read c.args.events.now c.args.place c.index-events-place.result c.messages-messages.result.now
    (omega arith) c.index-events-place.is c.messages-messages.ensures in
    c.loop-message.invariant ∙ ap (λ xs. c.args.hops.now.items ++ flat_map (hop_in (length c.args.events.now) c.args.place) xs)
    (take_all c.loop-message.message-index c.messages-messages.result.now c.loop-message-test.false ∙ ms)
