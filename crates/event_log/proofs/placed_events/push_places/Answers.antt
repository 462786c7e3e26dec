use Rattle.std.proofs.Common.{◌==◌, ◌∙◌, ◌<◌, ◌++◌, sym, ap, map, arith, rules, length}
use Rattle.std.proofs.lemmas.Iterator.Splits.{YieldsList-from_slice_split}
use Rattle.std.proofs.lemmas.Iterator.Consumers.{YieldsList-end}
use borrow.Author.Tests.{tests}
use Rattle.event_log.specs.SentMessages.{place_for}
use Rattle.trace_text.proofs.NameTexts.{words-split}
use Rattle.event_log.proofs.placed_events.push_places.Goals as goal

pub returns : goal.returns
returns c =
    let names = c.args.names.now in
    let some : 0 < length names = omega arith in
    let start = c.into_iter-name-iterator.ensures in
    let split = c.split-name-items.ensures in
    let road =
    YieldsList-from_slice_split _ (λ b. b == 32) names (cc) (cc) (cc) (λ x b q k. search (rules, tests)) in
    let end = YieldsList-end road c.loop-name.yielded _ c.loop-name.yielded_by _ _ c.in-None.is c.next.ensures.steps in
    let places = map (place_for c.args.sent.now c.args.processor) in
    c.loop-name.invariant.2
    ∙ ap (λ xs. c.args.places.now.items ++ places xs) (end.0 ∙ sym (words-split names some))
