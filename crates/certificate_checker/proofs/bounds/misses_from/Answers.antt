use Rattle.std.proofs.Common.{inl, inr, ◌≡◌, ◌+◌, ◌-◌, ap, arith}
use Rattle.std.proofs.lemmas.Bool.{cases_eq}
use Rattle.step_trace.proofs.TickPositions.{step_there}
use Rattle.certificate_checker.proofs.Common.{tick_of, step_at_within, ticks_rise}
use Rattle.certificate_checker.proofs.LongerWitnesses.{KnowsMissesAfter-earlier, span_of_last, span_of_longest}
use Rattle.certificate_checker.proofs.bounds.misses_from.Goals as goal

pub loop-s-init : goal.loop-s-init
loop-s-init c =
    let e : c.args.longest.after + 1 - 1 ≡ c.args.longest.after = omega arith in
    record {
      low = omega arith;
      high = omega arith;
      known = rw e c.requires.known;
      above = rw e c.requires.above;
    }

pub returns-then-tick-from-clause-below : goal.returns-then-tick-from-clause-below
returns-then-tick-from-clause-below c =
    let below = c.loop-s-test.true in
    let high = c.loop-s.invariant.high in
    let inside = c.requires.high in
    let early = c.if-tick-from.true in
    let value = c.tick.ensures.value in
    λ k x e l. (let z = step_there c.args.trace.now.steps (c.loop-s.s - 1) (omega (arith, below)) (omega (arith, high, inside)) in
    let rise = ticks_rise c.args.trace.now c.tick.ensures.timed k (c.loop-s.s - 1) x z.0 e z.1 l in omega (arith, rise, early, value))

pub longer_miss-miss-requires-clause-earlier : goal.longer_miss-miss-requires-clause-earlier
longer_miss-miss-requires-clause-earlier c = span_of_last c.args.set c.args.trace.now
    (c.loop-s.s - 1) c.last_miss.result c.last_miss.ensures

pub longer_miss-miss-requires-clause-miss : goal.longer_miss-miss-requires-clause-miss
longer_miss-miss-requires-clause-miss c = span_of_longest c.args.set c.args.trace.now
    (c.loop-s.s - 1) c.loop-s.miss c.loop-s.invariant.known

pub loop-s-preserved : goal.loop-s-preserved
loop-s-preserved c =
    let below = c.loop-s-test.true in
    let late = c.if-tick-from.false in
    record {
      low = omega (arith, below);
      high = omega (arith, c.loop-s.invariant.high);
      known = rw c.longer_miss-miss.ensures (KnowsMissesAfter-earlier c.args.set c.args.trace.now
          (c.loop-s.s - 1) c.last_miss.result c.loop-s.miss (omega (arith, below)) c.last_miss.ensures c.loop-s.invariant.known);
      above = λ k x e l. elim (cases_eq k (c.loop-s.s - 1)) [
        | inl same ↦ (let at = ap (tick_of c.args.trace.now) same in omega (arith, at, late, c.tick.ensures.value))
        | inr other ↦ c.loop-s.invariant.above k x e (omega (arith, other, l))
      ];
    }

pub returns-clause-known : goal.returns-clause-known
returns-clause-known c =
    let e : c.loop-s.s - 1 ≡ 0 = omega (arith, c.loop-s.invariant.low, c.loop-s-test.false) in
    rw e at c.loop-s.invariant.known

pub returns-clause-above : goal.returns-clause-above
returns-clause-above c =
    let e : c.loop-s.s - 1 ≡ 0 = omega (arith, c.loop-s.invariant.low, c.loop-s-test.false) in
    rw e at c.loop-s.invariant.above

pub returns-clause-below : goal.returns-clause-below
returns-clause-below c = λ k x e l. absurd (let inside = step_at_within c.args.trace.now.steps k x e in omega (arith, inside, l))
