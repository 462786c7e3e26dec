use Rattle.std.proofs.Common.{◌-◌, inl, inr, arith}
use Rattle.step_trace.proofs.StepPositions.{step_at_within}
use Rattle.step_trace.proofs.TickOrder.{ticks_rise}
use Rattle.suffix_staircase.proofs.TickBorders.{step_or_zero}
use Rattle.link_bounds.proofs.passes.Pass.back_to.Goals as goal

pub returns-then-tick-at : goal.returns-then-tick-at
returns-then-tick-at c =
    let t = c.args.trace.now in
    let last = c.loop-no.no - 1 in
    let end = c.loop-no.invariant.end in
    record {
      done = last;
      known = c.loop-no.invariant.known;
      before = record {
        below = λ k x h l. elim (step_or_zero t.steps last (omega arith)) [
          | inl none ↦ absurd (omega (arith, step_at_within t.steps k x h, none))
          | inr y ↦ omega (arith, ticks_rise t c.tick.ensures.timed k last x y.0 h y.1 l, c.tick.ensures.value, c.if-tick-at.true)
        ];
        above = λ k x h l. c.loop-no.invariant.above k x h (omega (arith, c.loop-no.invariant.start));
      };
    }

pub returns : goal.returns
returns c =
    let t = c.args.trace.now in
    let start = c.loop-no.invariant.start in
    record {
      done = c.loop-no.no - 1;
      known = c.loop-no.invariant.known;
      before = record {
        below = λ k x h l. absurd (omega (arith, step_at_within t.steps k x h, c.loop-no-test.false));
        above = λ k x h l. c.loop-no.invariant.above k x h (omega (arith, c.loop-no-test.false));
      };
    }
