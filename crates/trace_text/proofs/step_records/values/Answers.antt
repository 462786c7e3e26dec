use Rattle.std.proofs.Common.{arith, sym, ◌∙◌, ◌≤◌, ◌<◌, length}
use Rattle.csv.specs.Records.{fields_of}
use Rattle.trace_text.proofs.NumberLists.{values-turn, values-turn_none, begins_after_first-turn}
use Rattle.trace_text.proofs.step_records.values.Goals as goal

pub returns-in_default-clause-numbers : goal.returns-in_default-clause-numbers
returns-in_default-clause-numbers c =
    let low : 1 ≤ c.loop-i.i = omega arith in
    let high : c.loop-i.i < length (fields_of c.args.fields.now) = omega arith in
    sym (values-turn_none (fields_of c.args.fields.now) c.loop-i.i c.field.result.now low high c.field.ensures
    (sym c.number.ensures ∙ c.in_default.is))

pub returns-in_err-push-clause-more : goal.returns-in_err-push-clause-more
returns-in_err-push-clause-more c = λ _.
    let low : 1 ≤ c.loop-i.i = omega arith in
    let high : c.loop-i.i < length (fields_of c.args.fields.now) = omega arith in
    begins_after_first-turn (fields_of c.args.fields.now)
    c.loop-i.i c.field.result.now c.in-Some.value c.loop-i.invariant.1 low high c.field.ensures (sym c.number.ensures ∙ c.in-Some.is)

pub loop-i-preserved : goal.loop-i-preserved
loop-i-preserved c =
    let low : 1 ≤ c.loop-i.i = omega arith in
    let high : c.loop-i.i < length (fields_of c.args.fields.now) = omega arith in
    let fields = fields_of c.args.fields.now in
    let number = sym c.number.ensures ∙ c.in-Some.is in (
      values-turn fields c.loop-i.i c.loop-i.values.items c.push.new.self.items
          c.field.result.now c.in-Some.value low high c.field.ensures c.loop-i.invariant.0 number c.in_ok-push.ensures.items,
      λ _.
          begins_after_first-turn fields c.loop-i.i c.field.result.now c.in-Some.value c.loop-i.invariant.1 low high c.field.ensures number,
    )
