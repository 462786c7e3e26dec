use Rattle.std.proofs.Common.{ℕ, List, [], ◌≡◌, ◌+◌, ◌-◌, ◌<◌, ◌≤◌, ◌∙◌, ◌++◌, length, get_or, not, drop, take, filter, refl, sym, ap, arith}
use Rattle.std.proofs.lemmas.List.{with_items_is, nil_from_length, take_rest, length-take-le, length-drop, drop-drop}
use Rattle.std.specs.Vec.{with_items}
use Rattle.step_buffers.specs.Moves.{is_in}
use Rattle.step_buffers.proofs.RemovedIds.{rising-drop, left-between, without-gap, length-written, filter-all}
use Rattle.step_buffers.proofs.removals.take_out_between.Goals as goal

pub returns-then-ids-eq0-clause-left : goal.returns-then-ids-eq0-clause-left
returns-then-ids-eq0-clause-left c =
    let none : c.args.ids.now ≡ [] = nil_from_length c.args.ids.now c.if-ids-eq0.true in
    rw none (sym (filter-all (λ s. not (is_in [] s)) (drop c.args.start c.args.list.now.items) (λ s d. refl)))

pub count_up_to-requires : goal.count_up_to-requires
count_up_to-requires c =
    let old = c.args.list.now.items in
    rw (c.deref-2.ensures.value, take_rest old (c.args.start + c.count_below.result), ← drop-drop c.count_below.result c.args.start old)
    (rising-drop (drop c.args.start old) c.count_below.result c.requires.waiting)

pub returns-clause-left : goal.returns-clause-left
returns-clause-left c =
    let ids = c.args.ids.now in
    let old = c.args.list.now.items in
    let start = c.args.start in
    let n = c.count_below.result in
    let m = c.count_up_to.result in
    let r : ℕ = c.keep_others.result in
    let part : List ℕ = c.keep_others.new.part in
    let waiting = drop start old in
    let v = c.deref_mut.result.now in
    let first = c.requires.within in
    let long = length-drop start old in
    let long-2 = length-drop n waiting in
    let same : start + n + m - (start + n) ≡ m = omega arith in
    let within : n ≤ length waiting = rw (c.deref.ensures.value, take_rest old start) at c.count_below.ensures.within in
    let below : (k : ℕ) → k < n → get_or waiting k 0
    < get_or ids 0 0 = rw (c.deref.ensures.value, take_rest old start) at c.count_below.ensures.below in
    let within-2 : m ≤ length (drop n waiting) =
    rw (c.deref-2.ensures.value, take_rest old (start + n), ← drop-drop n start old) at c.count_up_to.ensures.within in
    let above : (k : ℕ) → m ≤ k → k < length (drop n waiting)
    → get_or ids (length ids - 1) 0 < get_or (drop n waiting) k 0 =
    rw (
      c.deref-2.ensures.value,
      take_rest old (start + n),
      ← drop-drop n start
          old,
    ) at c.count_up_to.ensures.above in
    let kept : take r part ≡ filter (λ s. not (is_in ids s)) (take m (drop n waiting)) =
    rw (c.deref_mut.ensures.value, same, ← drop-drop n start old) at c.keep_others.ensures.kept in
    let size : length part ≡ m = (rw (c.deref_mut.ensures.value, same, ← drop-drop n start old) at c.keep_others.ensures.length)
    ∙ length-take-le m (drop n waiting) within-2 in
    let short : r ≤ length part = c.keep_others.ensures.within in
    let written = take (start + n) v ++ (part ++ drop (start + n + m - (start + n)) (drop (start + n) v)) in
    let value = ap length c.deref_mut.ensures.value in
    let whole : length written ≡ c.args.list.now.len =
    length-written v part (start + n) (start + n + m - (start + n)) (omega arith) (size ∙ sym same) ∙ c.deref_mut.ensures.len in
    let gap : drop c.close_gap.result c.close_gap.new.list.items
    ≡ drop start (take (start + n + r) (with_items c.args.list.now written).items) ++ drop
    (start + n + m) (with_items c.args.list.now written).items = c.close_gap.ensures.left in
    (rw (with_items_is c.args.list.now written whole, c.deref_mut.ensures.value, same) at gap)
    ∙ without-gap old part start n m r (omega arith) size (omega arith)
    ∙ ap (λ ys. take n waiting ++ (ys ++ drop m (drop n waiting))) kept
    ∙ sym (left-between ids waiting n m c.requires.rising within below above)
