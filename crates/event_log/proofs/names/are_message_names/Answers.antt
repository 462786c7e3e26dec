use Rattle.std.proofs.Common.{◌==◌, ◌∙◌, ◌<◌, ◌∷◌, [], refl, sym, ap, map, arith, rules, length}
use Rattle.std.proofs.lemmas.Iterator.Splits.{YieldsList-from_slice_split}
use Rattle.std.proofs.lemmas.Iterator.Consumers.{YieldsList-turn, YieldsList-end}
use Rattle.std.proofs.lemmas.List.{map-append}
use Rattle.std.proofs.iter.Serving.{serving}
use Rattle.std.specs.List.{slice_split, list_all}
use borrow.Author.Tests.{tests}
use Rattle.trace_text.specs.Names.{is_message_name}
use Rattle.event_log.proofs.Views.{list_all-more, list_all-stops}
use Rattle.event_log.proofs.MessageNames.{no-names, are-split}
use Rattle.event_log.proofs.names.are_message_names.Goals as goal

pub returns-then-field-eq0 : goal.returns-then-field-eq0
returns-then-field-eq0 c = no-names c.args.field.now (omega (arith, c.if-field-eq0.true))

pub loop-name-init : goal.loop-name-init
loop-name-init c = (grind serving, grind serving, refl)

pub loop-name-preserved : goal.loop-name-preserved
loop-name-preserved c = (
  search rules,
  search rules,
  rw (map-append (λ x. x.now) c.loop-name.yielded (c.in-Some.name ∷ []))
      (list_all-more is_message_name (map (λ x. x.now) c.loop-name.yielded) c.in-Some.name.now c.loop-name.invariant.2
      (sym c.is_message_name.ensures ∙ c.if-not-is_message_name.false)),
)

pub returns : goal.returns
returns c =
    let some : 0 < length c.args.field.now = omega arith in
    let start = c.into_iter-name-iterator.ensures in
    let split = c.split-name-items.ensures in
    let road = YieldsList-from_slice_split _ (λ b. b == 32) c.args.field.now (cc) (cc) (cc) (λ x b q k. search (rules, tests)) in
    let end = YieldsList-end road c.loop-name.yielded _ c.loop-name.yielded_by _ _ c.in-None.is c.next.ensures.steps in
    sym (are-split c.args.field.now some ∙ ap (λ xs. list_all is_message_name xs) (sym end.0) ∙ c.loop-name.invariant.2)

pub returns-then-not-is_message_name : goal.returns-then-not-is_message_name
returns-then-not-is_message_name c =
    let some : 0 < length c.args.field.now = omega arith in
    let start = c.into_iter-name-iterator.ensures in
    let split = c.split-name-items.ensures in
    let road = YieldsList-from_slice_split _ (λ b. b == 32) c.args.field.now (cc) (cc) (cc) (λ x b q k. search (rules, tests)) in
    let t = YieldsList-turn road c.loop-name.yielded _ c.loop-name.yielded_by _ _ c.in-Some.name c.in-Some.is c.next.ensures.steps in
    let names = slice_split (λ b. b == 32) c.args.field.now in
    let bad = ap is_message_name (sym t.1) ∙ sym c.is_message_name.ensures ∙ c.if-not-is_message_name.true in
    sym (are-split c.args.field.now some ∙ list_all-stops is_message_name names (length c.loop-name.yielded) c.in-Some.name.now t.0 bad)
