use Rattle.std.proofs.Common.{◌==◌, ◌∙◌, ◌<◌, ◌∷◌, [], ◌++◌, Some, refl, sym, ap, map, arith, rules, length}
use Rattle.std.proofs.lemmas.Iterator.Splits.{YieldsList-from_slice_split}
use Rattle.std.proofs.lemmas.Iterator.Consumers.{YieldsList-turn, YieldsList-end}
use Rattle.std.proofs.lemmas.List.{map-append}
use Rattle.std.proofs.iter.Serving.{serving}
use Rattle.std.specs.List.{slice_split}
use borrow.Author.Tests.{tests}
use Rattle.std.specs.Prelude.{IsTrue, option_map}
use Rattle.trace_text.specs.TextRefusals.{numbers_of, begins_with_number, parts_of}
use Rattle.trace_text.specs.JudgedIds.{judged}
use Rattle.trace_text.proofs.NumberLists.{numbers_of-more, numbers_of-turn_none, begins_with_number-turn, ids_of-split}
use Rattle.trace_text.proofs.JudgedIds.{kept-none}
use Rattle.trace_text.proofs.step_records.judged_ids.Goals.{In-Some-number}
use Rattle.trace_text.proofs.step_records.judged_ids.Goals as goal

pub returns-in_default-clause-numbers : goal.returns-in_default-clause-numbers
returns-in_default-clause-numbers c =
    let some : 0 < length c.args.field.now = omega arith in
    let start = c.into_iter-part-iterator.ensures in
    let split = c.split-part-items.ensures in
    let road = YieldsList-from_slice_split _ (λ b. b == 32) c.args.field.now (cc) (cc) (cc) (λ x b q k. search (rules, tests)) in
    let t = YieldsList-turn road c.loop-part.yielded _ c.loop-part.yielded_by _ _ c.in-Some.part c.in-Some.is c.next.ensures.steps in
    let none = numbers_of-turn_none (slice_split (λ b. b == 32) c.args.field.now)
    (length c.loop-part.yielded) c.in-Some.part.now c.in-Some.part.now t.0 t.1 (sym c.number.ensures ∙ c.in_default.is) in
    ap (option_map judged) (sym (ids_of-split c.args.field.now some ∙ none))

-- if a part was a number, so is the first
first-part : (c : In-Some-number) → IsTrue (begins_with_number (parts_of c.args.field.now))
first-part c =
    let start = c.into_iter-part-iterator.ensures in
    let split = c.split-part-items.ensures in
    let road = YieldsList-from_slice_split _ (λ b. b == 32) c.args.field.now (cc) (cc) (cc) (λ x b q k. search (rules, tests)) in
    let t = YieldsList-turn road c.loop-part.yielded _ c.loop-part.yielded_by _ _ c.in-Some.part c.in-Some.is c.next.ensures.steps in
    begins_with_number-turn (parts_of c.args.field.now) (length c.loop-part.yielded) c.in-Some.part.now
    c.in-Some-number.id c.in-Some.part.now c.loop-part.invariant.3 t.0 t.1 (sym c.number.ensures ∙ c.in-Some-number.is)

pub loop-part-preserved : goal.loop-part-preserved
loop-part-preserved c =
    let kept = c.loop-part.invariant.2 in
    let all = kept.0 ++ c.in-Some-number.id ∷ [] in
    let more = numbers_of-more (map (λ x. x.now) c.loop-part.yielded) kept.0 c.in-Some.part.now c.in-Some-number.id kept.1
    (sym c.number.ensures ∙ c.in-Some-number.is) in (
      search rules,
      search rules,
      (all, rw (map-append (λ x. x.now) c.loop-part.yielded (c.in-Some.part ∷ [])) more, c.in_ok-rising.ensures kept.0 kept.2),
      λ _. first-part (goal.at.loop-part-preserved c).In-Some-number,
    )

pub returns-in_err-rising-clause-more : goal.returns-in_err-rising-clause-more
returns-in_err-rising-clause-more c = λ _. first-part (goal.at.returns-in_err-rising-clause-more c).In-Some-number

pub returns-clause-numbers : goal.returns-clause-numbers
returns-clause-numbers c =
    let some : 0 < length c.args.field.now = omega arith in
    let start = c.into_iter-part-iterator.ensures in
    let split = c.split-part-items.ensures in
    let road = YieldsList-from_slice_split _ (λ b. b == 32) c.args.field.now (cc) (cc) (cc) (λ x b q k. search (rules, tests)) in
    let end = YieldsList-end road c.loop-part.yielded _ c.loop-part.yielded_by _ _ c.in-None.is c.next.ensures.steps in
    let all = ids_of-split c.args.field.now some ∙ ap numbers_of (sym end.0) ∙ c.loop-part.invariant.2.1 in
    ap (λ l. Some l) c.loop-part.invariant.2.2.ids ∙ ap (option_map judged) (sym all)

pub loop-part-init : goal.loop-part-init
loop-part-init c = (
  grind serving,
  grind serving,
  ([], refl, rw c.new-ids.ensures.items kept-none),
  search rules,
)
