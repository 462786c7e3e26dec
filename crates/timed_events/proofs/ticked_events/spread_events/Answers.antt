use Rattle.std.proofs.Common.{◌≡◌, ◌∙◌, None, fold, max, refl, sym, ap, subst, arith, rules}
use Rattle.std.proofs.lemmas.Result.{err_from_is_err_and}
use Rattle.timed_events.specs.Checks.{events_refusal}
use Rattle.timed_events.specs.Orders.{IsOrder}
use Rattle.timed_events.proofs.MessageFaults.{received-by, passes-spread}
use Rattle.timed_events.proofs.SpreadRefusals.{fault-refused, cycle-refused}
use Rattle.timed_events.proofs.SpreadTraces.{own-ticks, meant-processors, spread-bounds}
use Rattle.timed_events.proofs.ticked_events.spread_events.Goals as goal

pub spread_ticks-requires-clause-first : goal.spread_ticks-requires-clause-first
spread_ticks-requires-clause-first c = (own-ticks c.args.events.now
    c.args.clock.now c.deref.result.now c.requires.width c.in_ok-span.ensures.refused (c.deref.ensures.value ∙ c.in_ok-own.ensures)).1

pub spread_ticks-requires-clause-last : goal.spread_ticks-requires-clause-last
spread_ticks-requires-clause-last c = (own-ticks c.args.events.now
    c.args.clock.now c.deref.result.now c.requires.width c.in_ok-span.ensures.refused (c.deref.ensures.value ∙ c.in_ok-own.ensures)).2

pub causal_order-requires-clause-received : goal.causal_order-requires-clause-received
causal_order-requires-clause-received c = received-by c.args.events.now c.in_ok-check_messages.ensures

pub returns-in_err-check_messages-clause-refused : goal.returns-in_err-check_messages-clause-refused
returns-in_err-check_messages-clause-refused c =
    let p = err_from_is_err_and c.from_residual-in_err-check_messages.result c.from_residual-in_err-check_messages.ensures.1 in
    rw (p.1, p.2) (
    fault-refused c.args.events.now c.args.clock.now _ c.in_ok-span.ensures.refused c.in_err-check_messages.ensures)

pub returns-in_err-causal-clause-refused : goal.returns-in_err-causal-clause-refused
returns-in_err-causal-clause-refused c =
    let p = err_from_is_err_and c.from_residual-in_err-causal.result c.from_residual-in_err-causal.ensures.1 in
    rw (p.1, p.2) (
    cycle-refused c.args.events.now c.args.clock.now
    _ c.in_ok-span.ensures.refused c.in_ok-check_messages.ensures c.in_err-causal.ensures.refused)

pub order_of-requires-clause-passed : goal.order_of-requires-clause-passed
order_of-requires-clause-passed c = subst (λ xs. events_refusal c.args.events.now xs ≡ None) (sym c.deref-6.ensures.value)
    (passes-spread c.args.events.now c.deref.result.now c.in_ok-ticks.ticks.items c.in_ok-check_messages.ensures
    (meant-processors c.args.n c.args.events.now c.requires.most c.requires.meant) c.in_ok-ticks.ensures)

pub order_of-requires-clause-last : goal.order_of-requires-clause-last
order_of-requires-clause-last c = λ i l. (
    let own = own-ticks c.args.events.now c.args.clock.now c.deref.result.now c.requires.width c.in_ok-span.ensures.refused
    (c.deref.ensures.value ∙ c.in_ok-own.ensures) in
    let bounds = spread-bounds c.args.events.now c.deref.result.now c.deref-6.result.now
    c.in_ok-ticks.ticks.items c.in_ok-span.span.last c.last_of-last.result own.1 c.in_ok-ticks.ensures c.deref-6.ensures.value
    (c.last_of-last.ensures ∙ ap (λ xs. fold max c.in_ok-span.span.last xs) c.deref-3.ensures.value) in
    let b = bounds.1 i l in
    omega arith)

pub returns-clause-ticked : goal.returns-clause-ticked
returns-clause-ticked c =
    let own = own-ticks c.args.events.now c.args.clock.now c.deref.result.now c.requires.width c.in_ok-span.ensures.refused
    (c.deref.ensures.value ∙ c.in_ok-own.ensures) in
    let bounds = spread-bounds c.args.events.now c.deref.result.now c.in_ok-ticks.ticks.items
    c.in_ok-ticks.ticks.items c.in_ok-span.span.last c.last_of-last.result own.1 c.in_ok-ticks.ensures refl
    (c.last_of-last.ensures ∙ ap (λ xs. fold max c.in_ok-span.span.last xs) c.deref-3.ensures.value) in
    record {
      passed = search rules;
      are = search rules;
      last = search rules;
      moved = search rules;
      fit = record {
        long = c.in_ok-ticks.ensures.long;
        passed = passes-spread c.args.events.now c.deref.result.now c.in_ok-ticks.ticks.items
            c.in_ok-check_messages.ensures
            (meant-processors c.args.n c.args.events.now c.requires.most c.requires.meant) c.in_ok-ticks.ensures;
        first = bounds.0;
        within = bounds.1;
        most = omega arith;
      };
      ordered = subst (λ xs. IsOrder c.args.events.now xs c.in_ok-order.order.items) c.deref-6.ensures.value c.in_ok-order.ensures;
    }
