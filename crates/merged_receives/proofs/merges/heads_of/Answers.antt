use Rattle.std.proofs.Common.{◌+◌, ◌-◌, ◌∙◌, Bool, cond, List, length, set, refl, sym, ap, subst, arith}
use Rattle.std.specs.Prelude.{slice_index}
use Rattle.std.proofs.lemmas.List.{get_or_read, length-map}
use Rattle.timed_events.proofs.TimeOrders.{inside-order}
use Rattle.merged_receives.specs.declared.actors.Actor.{Actor}
use Rattle.merged_receives.specs.Actors.{actor_of}
use Rattle.merged_receives.specs.MergeWalks.{head_if}
use Rattle.merged_receives.specs.Merges.{receives_at}
use Rattle.merged_receives.proofs.ActorEvents.{actor-at}
use Rattle.merged_receives.proofs.MergeWalks.{AreHeads, heads-end, heads-start, heads-step}
use Rattle.merged_receives.proofs.merges.heads_of.Goals as goal

pub loop-k-init : goal.loop-k-init
loop-k-init c = heads-start c.args.events.now c.args.ticks.now c.args.order.now _ _ _ refl
    (c.in_ok-opens.ensures.items_if_clones_equal (λ y e. e)) (c.in_ok-heads.ensures.items_if_clones_equal (λ y e. e))

pub index-actor-requires : goal.index-actor-requires
index-actor-requires c =
    let i = inside-order c.args.events.now c.args.order.now c.loop-k.k c.requires.ordered c.loop-k-test.true in
    let actors = c.in_ok-actors.actors in
    let ok = actors.ok.0 in
    let n = ap (λ (xs : List Actor). length xs) c.in_ok-actors.ensures ∙ length-map c.args.events.now actor_of in
    omega (arith, ok, i, n)

pub overflow_sub-processor : goal.overflow_sub-processor
overflow_sub-processor c =
    let i = inside-order c.args.events.now c.args.order.now c.loop-k.k c.requires.ordered c.loop-k-test.true in
    (actor-at c.args.events.now c.in_ok-actors.actors.items (slice_index c.args.order.now c.loop-k.k)
    c.index-actor.result.now c.in_ok-actors.ensures c.requires.processors i c.index-actor.ensures).least

pub index-requires : goal.index-requires
index-requires c =
    let i = inside-order c.args.events.now c.args.order.now c.loop-k.k c.requires.ordered c.loop-k-test.true in
    let a = actor-at c.args.events.now c.in_ok-actors.actors.items (slice_index c.args.order.now c.loop-k.k)
    c.index-actor.result.now c.in_ok-actors.ensures c.requires.processors i c.index-actor.ensures in
    let least = a.least in
    let most = a.most in
    let wide = c.loop-k.invariant.wide in
    let ok = c.loop-k.opens.ok.0 in
    omega (arith, least, most, wide, ok)

pub head_of-head-requires-clause-inside : goal.head_of-head-requires-clause-inside
head_of-head-requires-clause-inside c =
    let i = inside-order c.args.events.now c.args.order.now c.loop-k.k c.requires.ordered c.loop-k-test.true in
    let n = c.requires.long in
    omega (arith, i, n)

pub index_mut-requires : goal.index_mut-requires
index_mut-requires c =
    let i = inside-order c.args.events.now c.args.order.now c.loop-k.k c.requires.ordered c.loop-k-test.true in
    let n = c.loop-k.invariant.long in
    let ok = c.loop-k.heads.ok.0 in
    omega (arith, ok, i, n)

pub index_mut-requires-in-loop-k : goal.index_mut-requires-in-loop-k
index_mut-requires-in-loop-k c =
    let i = inside-order c.args.events.now c.args.order.now c.loop-k.k c.requires.ordered c.loop-k-test.true in
    let a = actor-at c.args.events.now c.in_ok-actors.actors.items (slice_index c.args.order.now c.loop-k.k)
    c.index-actor.result.now c.in_ok-actors.ensures c.requires.processors i c.index-actor.ensures in
    let least = a.least in
    let most = a.most in
    let wide = c.loop-k.invariant.wide in
    let ok = c.loop-k.opens.ok.0 in
    omega (arith, least, most, wide, ok)

pub loop-k-preserved : goal.loop-k-preserved
loop-k-preserved c =
    let events = c.args.events.now in
    let ticks = c.args.ticks.now in
    let order = c.args.order.now in
    let k = c.loop-k.k in
    let i = slice_index order k in
    let opens = c.loop-k.opens.items in
    let heads = c.loop-k.heads.items in
    let actor = c.index-actor.result.now in
    let p = actor.processor - 1 in
    let head = c.head_of-head.result in
    let opened = c.open_after.result in
    let inside = inside-order events order k c.requires.ordered c.loop-k-test.true in
    let a = actor-at events c.in_ok-actors.actors.items i actor c.in_ok-actors.ensures c.requires.processors inside c.index-actor.ensures in
    let wide = c.loop-k.invariant.wide in
    let least = a.least in
    let most = a.most in
    let read = get_or_read opens p c.index.result.now (omega (arith, wide, least, most)) c.index.ensures 0 in
    subst (λ q. AreHeads events ticks order (k + 1) (set opens q opened) (set heads i head)) (sym a.own)
    (heads-step events ticks order c.requires.ordered
    c.requires.processors c.requires.rising k c.loop-k-test.true opens heads c.loop-k.invariant head
    (c.head_of-head.ensures
    ∙ ap (λ (t : Bool). head_if t (length ticks) ticks c.index.result.now i) a.receives
    ∙ ap (λ n. head_if (receives_at events i) n ticks c.index.result.now i) c.requires.long
    ∙ ap (λ x. head_if (receives_at events i) (length events) ticks x i) (read ∙ ap (slice_index opens) a.own)) opened
    (c.open_after.ensures ∙ ap (λ (t : Bool). cond t head (length events)) a.receives))

pub returns : goal.returns
returns c = heads-end c.args.events.now c.args.ticks.now
    c.args.order.now c.loop-k.k c.loop-k.opens.items c.loop-k.heads.items c.requires.ordered c.loop-k-test.false c.loop-k.invariant
