use Rattle.std.proofs.Common.{ℕ, ◌≡◌, ◌+◌, ◌-◌, ◌≤◌, ◌∙◌, length, not, drop, take, filter, sym, ap, arith}
use Rattle.std.proofs.lemmas.List.{take_rest, length-drop, drop-drop}
use Rattle.std.specs.Vec.{vec_len}
use Rattle.step_buffers.specs.Moves.{is_in}
use Rattle.step_buffers.proofs.RemovedIds.{rising-drop, rising-take, inner-part}
use Rattle.step_buffers.proofs.removals.take_out.Goals as goal

pub take_out_between-requires-clause-waiting : goal.take_out_between-requires-clause-waiting
take_out_between-requires-clause-waiting c =
    let old = c.args.list.now.items in
    let start = c.args.start in
    let front = c.shared_front-front.result in
    let back = c.shared_back-back.result in
    let rest = drop front (drop start old) in
    let last : back ≤ length rest =
    rw (c.deref-2.ensures.value, take_rest old (start + front), ← drop-drop front start old) at c.shared_back-back.ensures.waiting in
    let first : front ≤ length (drop start old) = rw (c.deref.ensures.value, take_rest old start) at c.shared_front-front.ensures.waiting in
    let within = c.requires.within in
    let long = length-drop start old in
    let size : vec_len c.args.list.now ≡ length old = sym c.deref.ensures.len ∙ ap length c.deref.ensures.value in
    rw (c.truncate.ensures.items, c.len.ensures, size, inner-part old start front back (omega arith) last)
    (rising-take rest (length rest - back) (rising-drop (drop start old) front c.requires.waiting))

pub returns-clause-left : goal.returns-clause-left
returns-clause-left c =
    let ids = c.args.ids.now in
    let old = c.args.list.now.items in
    let start = c.args.start in
    let front : ℕ = c.shared_front-front.result in
    let back : ℕ = c.shared_back-back.result in
    let waiting = drop start old in
    let rest = drop front waiting in
    let others = take (length ids - front) (drop front ids) in
    let v = c.deref.result.now in
    let w = c.deref-2.result.now in
    let last : back ≤ length rest =
    rw (c.deref-2.ensures.value, take_rest old (start + front), ← drop-drop front start old) at c.shared_back-back.ensures.waiting in
    let first : front ≤ length waiting = rw (c.deref.ensures.value, take_rest old start) at c.shared_front-front.ensures.waiting in
    let within = c.requires.within in
    let long = length-drop start old in
    let size : vec_len c.args.list.now ≡ length old = sym c.deref.ensures.len ∙ ap length c.deref.ensures.value in
    let seen = take (length v - start) (drop start v) in
    let front_left : filter (λ s. not (is_in ids s)) seen
    ≡ filter (λ s. not (is_in (drop front ids) s)) (drop front seen) = c.shared_front-front.ensures.left in
    let seen-2 = take (length w - (start + front)) (drop (start + front) w) in
    let back_left : filter (λ s. not (is_in others s)) seen-2 ≡ filter
    (λ s. not (is_in (take (length others - back) others) s)) (take (length seen-2 - back) seen-2) = c.shared_back-back.ensures.left in
    let between : drop c.take_out_between.result c.take_out_between.new.list.items ≡ filter
    (λ s. not (is_in (take (length others - back) others) s)) (drop (start + front) c.truncate.new.self.items) =
    c.take_out_between.ensures.left in
    (rw (c.truncate.ensures.items, c.len.ensures, size, inner-part old start front back (omega arith) last, take_rest ids front) at between)
    ∙ sym (rw (c.deref-2.ensures.value, take_rest old (start + front), ← drop-drop front start old, take_rest ids front) at back_left)
    ∙ sym (rw (c.deref.ensures.value, take_rest old start) at front_left)
