use Rattle.std.proofs.Common.{◌∙◌, ◌==◌, ap, map, length, refl, rules, sym}
use Rattle.std.proofs.lemmas.Iterator.Splits.{YieldsList-from_slice_split}
use Rattle.std.proofs.lemmas.Iterator.Consumers.{YieldsList-turn, YieldsList-end, YieldsList-so_far}
use Rattle.std.proofs.lemmas.Result.{err_from_is_err_and}
use Rattle.std.proofs.iter.Serving.{serving}
use borrow.Author.Tests.{tests}
use Rattle.csv.specs.Records.{fields_of}
use Rattle.trace_text.specs.Records.{after_records, field_of}
use Rattle.event_log.specs.Naming.{is_memory}
use Rattle.log_windows.specs.KeptRows.{next_part, nodes_in}
use Rattle.log_windows.specs.Rows.{with_field}
use Rattle.log_windows.proofs.ListedRows.{part-more, part-refused}
use Rattle.log_windows.proofs.windows.WindowRows.take_event.Goals as goal

pub loop-node-init : goal.loop-node-init
loop-node-init c = (grind serving, grind serving, refl)

pub returns-in_err-take_part : goal.returns-in_err-take_part
returns-in_err-take_part c =
    let start = c.into_iter-node-iterator.ensures in
    let split = c.split-node-items.ensures in
    let is = c.field.ensures in
    let to = field_of (fields_of c.args.fields.now) c.args.columns.now.to in
    let road = YieldsList-from_slice_split _ (λ b. b == 59) to (cc) (cc) (cc) (λ x b q k. search (rules, tests)) in
    let t = YieldsList-turn road c.loop-node.yielded _ c.loop-node.yielded_by _ _ c.in-Some.node c.in-Some.is c.next.ensures.steps in
    let front = YieldsList-so_far road c.loop-node.yielded _ c.loop-node.yielded_by in
    let p = err_from_is_err_and c.from_residual.result c.from_residual.ensures.1 in
    rw (p.1, p.2, sym c.if-not-field_is.ensures)
    (part-refused is_memory (next_part c.args.columns.now c.args.place) c.args.self.now c.loop-node.self _
    (with_field (fields_of c.args.fields.now) c.args.columns.now.to) (nodes_in to)
    (map (λ x. x.now) c.loop-node.yielded) c.in-Some.node.now (length c.loop-node.yielded) front t.0 t.1 c.loop-node.invariant.2
    (rw (c.in_err-take_part.was, c.in-Ok.ensures) at c.take_part-in-loop-node.ensures))

pub loop-node-preserved : goal.loop-node-preserved
loop-node-preserved c = (
  search rules,
  search rules,
  part-more (next_part c.args.columns.now c.args.place) c.args.self.now c.loop-node.self _
      (with_field (fields_of c.args.fields.now) c.args.columns.now.to) c.loop-node.yielded c.in-Some.node
      c.loop-node.invariant.2 (rw (c.in_ok-take_part.was, c.in-Ok.ensures) at c.take_part-in-loop-node.ensures),
)

pub returns : goal.returns
returns c =
    let start = c.into_iter-node-iterator.ensures in
    let split = c.split-node-items.ensures in
    let is = c.field.ensures in
    let to = field_of (fields_of c.args.fields.now) c.args.columns.now.to in
    let road = YieldsList-from_slice_split _ (λ b. b == 59) to (cc) (cc) (cc) (λ x b q k. search (rules, tests)) in
    let end = YieldsList-end road c.loop-node.yielded _ c.loop-node.yielded_by _ _ c.in-None.is c.next.ensures.steps in
    rw (sym c.if-not-field_is.ensures)
    (ap (λ nodes. after_records (next_part c.args.columns.now c.args.place) c.args.self.now
    (map (with_field (fields_of c.args.fields.now) c.args.columns.now.to) nodes)) (sym end.0) ∙ c.loop-node.invariant.2)
