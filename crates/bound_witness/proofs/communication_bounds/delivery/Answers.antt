use Rattle.std.proofs.Common.{ap, arith, below_more, refl}
use Rattle.bound_witness.proofs.Common.{TakesAt, tick_of, step_at_within, tick_of-limit}
use Rattle.bound_witness.proofs.communication_bounds.delivery.Goals as goal

pub loop-no-preserved : goal.loop-no-preserved
loop-no-preserved c = below_more (λ r. TakesAt c.args.trace.now.steps r c.args.s → ⊥) _ c.loop-no.invariant
    (λ t. let e = c.if-takes.ensures.1 t in cc)

pub returns-then-takes-clause-exact : goal.returns-then-takes-clause-exact
returns-then-takes-clause-exact c =
    let t = c.if-takes.ensures.0 refl in
    let l = c.tick.ensures.timed.later c.loop-no.no c.args.s t in
    λ y _. (
      λ d.
          let same = ap (tick_of c.args.trace.now) (c.len.ensures.sound.once c.loop-no.no d.place c.args.s t d.takes) in
          omega (arith, c.tick.ensures.value, same, d.until),
      λ m. record { place = c.loop-no.no; after = l; until = omega (arith, c.tick.ensures.value, m); takes = t },
    )

pub returns-clause-after : goal.returns-clause-after
returns-clause-after c =
    omega (arith, tick_of-limit c.args.trace.now c.last_tick-end.ensures.timed c.args.s, c.last_tick-end.ensures.value)

pub returns-clause-exact : goal.returns-clause-exact
returns-clause-exact c = λ y l. (
  λ d. absurd
      (c.loop-no.invariant d.place (let w = (step_at_within c.args.trace.now.steps d.place d.takes.0 d.takes.1).1 in omega arith) d.takes),
  λ m. absurd (let v = c.last_tick-end.ensures.value in omega (arith, v, l, m)),
)
