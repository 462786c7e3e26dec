use Rattle.std.proofs.Common.{◌+◌, ◌-◌, ◌/◌, ◌<◌, arith}
use Rattle.step_trace.proofs.TickSearches.{searched_up, searched_down}
use Rattle.step_trace.proofs.tick_steps.steps_before.Goals as goal

pub loop-low-preserved-then-tick : goal.loop-low-preserved-then-tick
loop-low-preserved-then-tick c =
    let inside : c.loop-low.low + (c.loop-low.high - c.loop-low.low) / 2 < c.loop-low.high = omega (arith, c.loop-low-test.true) in
    searched_up c.args.trace.now c.tick.ensures.timed c.args.tick c.loop-low.low c.loop-low.high _ inside
    (omega (arith, c.if-tick.true, c.tick.ensures.value)) c.loop-low.invariant

pub loop-low-preserved : goal.loop-low-preserved
loop-low-preserved c =
    let inside : c.loop-low.low + (c.loop-low.high - c.loop-low.low) / 2 < c.loop-low.high = omega (arith, c.loop-low-test.true) in
    searched_down c.args.trace.now c.tick.ensures.timed c.args.tick c.loop-low.low c.loop-low.high _
    (omega arith) inside (omega (arith, c.if-tick.false, c.tick.ensures.value)) c.loop-low.invariant
