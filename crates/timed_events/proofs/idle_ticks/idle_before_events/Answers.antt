use Rattle.std.proofs.Common.{◌≡◌, length, set, refl, sym, subst, arith, ◌+◌}
use Rattle.std.specs.Prelude.{slice_index}
use Rattle.std.proofs.lemmas.List.{get_or_read}
use Rattle.timed_events.specs.IdleWalks.{IsWalkedTo}
use Rattle.timed_events.proofs.IdleWalks.{walked-start, walked-next}
use Rattle.timed_events.proofs.SortedEvents.{places-inside}
use Rattle.timed_events.proofs.idle_ticks.idle_before_events.Goals as goal

pub loop-k-init : goal.loop-k-init
loop-k-init c = walked-start c.args.events.now c.args.ticks.now c.args.order.now c.args.limit _ _
    (c.in_ok-lasts.ensures.items_if_clones_equal (λ y e. e)) c.new-idles.ensures.items

pub processor_of-processor-requires-clause-inside : goal.processor_of-processor-requires-clause-inside
processor_of-processor-requires-clause-inside c =
    (places-inside (length c.args.events.now) c.args.order.now c.requires.ordered.places).1 c.loop-k.k c.loop-k-test.true

pub bounds-ticks-place : goal.bounds-ticks-place
bounds-ticks-place c = let i = (places-inside (length c.args.events.now) c.args.order.now c.requires.ordered.places).1
    c.loop-k.k c.loop-k-test.true in let n = c.requires.ticks in omega arith

pub loop-k-preserved : goal.loop-k-preserved
loop-k-preserved c =
    let inside = (places-inside (length c.args.events.now) c.args.order.now c.requires.ordered.places).1 c.loop-k.k c.loop-k-test.true in
    let q = (c.requires.processors (slice_index c.args.order.now c.loop-k.k) inside).0 in
    let v = c.processor_of-processor.ensures.value in
    let since = get_or_read c.loop-k.lasts.items c.processor_of-processor.result c.index.result.now
    (let s = c.loop-k.invariant.wide in let b = c.processor_of-processor.ensures.inside in omega arith)
    c.index.ensures 0 in
    let next = walked-next c.args.events.now c.args.ticks.now c.args.order.now
    (record { processors = c.requires.processors; first = c.requires.first; ordered = c.requires.ordered })
    c.args.limit c.loop-k.k c.loop-k.lasts.items c.loop-k.idles.items c.loop-k.invariant
    c.processor_of-processor.result c.index.result.now
    (slice_index c.args.ticks.now (slice_index c.args.order.now c.loop-k.k)) c.loop-k-test.true
    (omega arith) since refl in
    subst (λ xs. IsWalkedTo c.args.events.now c.args.ticks.now c.args.order.now c.args.limit (c.loop-k.k + 1)
    (set c.loop-k.lasts.items c.processor_of-processor.result
    (slice_index c.args.ticks.now (slice_index c.args.order.now c.loop-k.k))) xs)
    (sym c.in_ok-note_silence.ensures) next

pub overflow_sub-tick : goal.overflow_sub-tick
overflow_sub-tick c = c.requires.first (slice_index c.args.order.now c.loop-k.k)
    ((places-inside (length c.args.events.now) c.args.order.now c.requires.ordered.places).1 c.loop-k.k c.loop-k-test.true)

pub returns : goal.returns
returns c =
    let e : c.loop-k.k ≡ length c.args.order.now = omega arith in
    subst (λ k. IsWalkedTo c.args.events.now c.args.ticks.now c.args.order.now c.args.limit k c.loop-k.lasts.items c.loop-k.idles.items)
    e c.loop-k.invariant
