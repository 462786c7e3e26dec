use Rattle.std.proofs.Common.{◌==◌, ◌∙◌, ◌<◌, sym, arith, rules, length}
use Rattle.std.proofs.lemmas.Iterator.Splits.{YieldsList-from_slice_split}
use Rattle.std.proofs.lemmas.Iterator.Consumers.{YieldsList-end}
use Rattle.std.proofs.iter.Serving.{serving}
use borrow.Author.Tests.{tests}
use Rattle.trace_text.proofs.NameTexts.{words-split}
use Rattle.step_tables.proofs.names.words_of.Goals as goal

pub loop-word-init : goal.loop-word-init
loop-word-init c = (grind serving, grind serving, search rules)

pub returns : goal.returns
returns c =
    let some : 0 < length c.args.field.now = omega arith in
    let start = c.into_iter-word-iterator.ensures in
    let split = c.split-word-items.ensures in
    let road = YieldsList-from_slice_split _ (λ b. b == 32) c.args.field.now (cc) (cc) (cc) (λ x b q k. search (rules, tests)) in
    let end = YieldsList-end road c.loop-word.yielded _ c.loop-word.yielded_by _ _ c.in-None.is c.next.ensures.steps in
    c.loop-word.invariant.2 ∙ end.0 ∙ sym (words-split c.args.field.now some)
