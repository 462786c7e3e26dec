use Rattle.std.proofs.Common.{Vec, Global, ◌≡◌, ◌-◌, ◌∷◌, ◌++◌, [], length, drop, ap, ◌∙◌, arith}
use Rattle.std.proofs.lemmas.List.{get_or_read, length_push}
use Rattle.std.proofs.lemmas.Result.{IfOk-weaker}
use Rattle.timed_events.specs.declared.cause_cycles.Hop.{Hop}
use Rattle.timed_events.proofs.CausalWalks.{zeros-set}
use Rattle.timed_events.proofs.CauseCycles.{path-start, path-step, path-cycle, path-back}
use Rattle.timed_events.proofs.cause_cycles.cycle_from.Goals as goal

pub loop-event-init : goal.loop-event-init
loop-event-init c = path-start c.args.events.now c.args.walk.now.heads.items c.in_ok-seen.seen.items
    c.new-path.result.items c.args.processor c.new-path.ensures.items
    (c.in_ok-seen.ensures.items_if_clones_equal (λ y e. e)) c.requires.inside c.requires.left

pub loop-event-preserved : goal.loop-event-preserved
loop-event-preserved c =
    let w = c.requires.walked in
    let i = c.loop-event.invariant.inside in
    let a : c.len.result ≡ length c.push.new.self.items = (let v = c.len.ensures in let ok = c.push.new.self.ok in omega (arith, v, ok)) in
    let b : length c.push.new.self.items ≡ length (c.loop-event.path.items
    ++ record { event = c.index-event.result.now; message = c.index-message.result.now } ∷ []) = ap length c.in_ok-push.ensures.items in
    let n = length_push c.loop-event.path.items (record { event = c.index-event.result.now; message = c.index-message.result.now }) in
    path-step c.args.events.now c.args.walk.now.heads.items c.args.walk.now.met.items c.args.walk.now.waits.items
    c.args.walk.now.ranks.items c.args.walk.now.order.items c.args.walk.now.awake.items c.loop-event.seen.items
    c.loop-event.path.items c.loop-event.at c.requires.processors w c.requires.waiting c.loop-event.invariant
    c.index-event.result.now c.index-message.result.now c.len.result c.processor_index-at.result
    c.push.new.self.items (get_or_read c.args.walk.now.heads.items c.loop-event.at c.index-event.result.now
    (let n = w.wide.0 in omega arith) c.index-event.ensures 0)
    (get_or_read c.args.walk.now.waits.items c.loop-event.at c.index-message.result.now
    (let n = w.wide.2 in omega arith) c.index-message.ensures 0)
    (omega arith) c.processor_index-at.ensures.value c.in_ok-push.ensures.items

pub loop-event-smaller : goal.loop-event-smaller
loop-event-smaller c =
    let i = c.loop-event.invariant.inside in
    let n = c.loop-event.invariant.wide in
    let z = get_or_read c.loop-event.seen.items c.loop-event.at c.index.result.now (omega arith) c.index.ensures 0 in
    let t = c.loop-event-test.true in
    let a : c.len.result ≡ length c.push.new.self.items = (let v = c.len.ensures in let ok = c.push.new.self.ok in omega (arith, v, ok)) in
    let b : length c.push.new.self.items ≡ length (c.loop-event.path.items
    ++ record { event = c.index-event.result.now; message = c.index-message.result.now } ∷ []) = ap length c.in_ok-push.ensures.items in
    let m = length_push c.loop-event.path.items (record { event = c.index-event.result.now; message = c.index-message.result.now }) in
    let s = zeros-set c.loop-event.seen.items c.loop-event.at c.len.result (omega arith) (omega arith) (omega arith) in
    omega arith

pub rest_of-requires : goal.rest_of-requires
rest_of-requires c =
    let i = c.loop-event.invariant.inside in
    let n = c.loop-event.invariant.wide in
    let z = get_or_read c.loop-event.seen.items c.loop-event.at c.index.result.now (omega arith) c.index.ensures 0 in
    let y = get_or_read c.loop-event.seen.items c.loop-event.at c.index-2.result.now (omega arith) c.index-2.ensures 0 in
    let t = c.loop-event-test.false in
    let b = path-back c.args.events.now c.args.walk.now.heads.items
    c.loop-event.seen.items c.loop-event.path.items c.loop-event.at c.loop-event.at c.loop-event.invariant (omega arith) in
    let v = ap length c.deref.ensures.value in
    omega arith

pub returns : goal.returns
returns c =
    let i = c.loop-event.invariant.inside in
    let n = c.loop-event.invariant.wide in
    let z = get_or_read c.loop-event.seen.items c.loop-event.at c.index.result.now (omega arith) c.index.ensures 0 in
    let y = get_or_read c.loop-event.seen.items c.loop-event.at c.index-2.result.now (omega arith) c.index-2.ensures 0 in
    let t = c.loop-event-test.false in
    IfOk-weaker _ _ _ (λ (v : Vec Hop Global) e. path-cycle c.args.events.now c.args.walk.now.heads.items
    c.loop-event.seen.items c.loop-event.path.items v.items c.loop-event.at
    (c.index-2.result.now - 1) c.loop-event.invariant (omega arith) (ap (λ x. x - 1) y)
    (e ∙ ap (drop (c.index-2.result.now - 1)) c.deref.ensures.value)) c.rest_of.ensures
