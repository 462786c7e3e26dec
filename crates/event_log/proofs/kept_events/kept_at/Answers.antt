use Rattle.std.proofs.Common.{◌≡◌, ◌∙◌, Some, length, map, ap, subst, arith}
use Rattle.event_log.proofs.KeptEvents.{AreKeptTo, is-above, kept-all, kept-next, kept-start}
use Rattle.event_log.proofs.kept_events.kept_at.Goals as goal

pub loop-k-init : goal.loop-k-init
loop-k-init c = kept-start c.args.events.items c.args.places.now

pub swap-requires-clause-i_in_bounds : goal.swap-requires-clause-i_in_bounds
swap-requires-clause-i_in_bounds c =
    let above = is-above c.args.places.now c.requires.rising c.loop-k.k c.loop-k-test.true in
    let inside = c.requires.inside c.loop-k.k c.loop-k-test.true in
    let long = c.loop-k.invariant.long in
    let ok = c.loop-k.kept.ok in
    omega (arith, above, inside, long, ok)

pub loop-k-preserved : goal.loop-k-preserved
loop-k-preserved c =
    let now = c.loop-k.kept in
    let next = c.swap.new.self in
    let long : length next.items ≡ length now.items =
    (let same = c.swap.ensures.len in let a = next.ok in let b = now.ok in omega (arith, same, a, b)) in
    kept-next c.args.places.now c.requires.rising c.args.events.items now.items next.items c.loop-k.k
    c.loop-k-test.true c.swap.ensures.by_index long c.loop-k.invariant

pub returns : goal.returns
returns c =
    let places = c.args.places.now in
    let all : c.loop-k.k ≡ length places = (let end = c.loop-k.auto.k-end in let past = c.loop-k-test.false in omega (arith, end, past)) in
    ap (map Some) c.truncate.ensures.items
    ∙ kept-all places c.requires.rising c.args.events.items c.loop-k.kept.items c.requires.inside
    (subst (λ k. AreKeptTo c.args.events.items c.loop-k.kept.items places k) all c.loop-k.invariant)
