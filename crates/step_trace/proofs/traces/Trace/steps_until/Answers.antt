use Rattle.std.proofs.Common.{arith}
use Rattle.step_trace.proofs.TickPositions.{tick_of-limit}
use Rattle.step_trace.proofs.TraceFronts.{later_ticks}
use Rattle.step_trace.proofs.traces.Trace.steps_until.Goals as goal

pub returns-then-tick-clause-after : goal.returns-then-tick-clause-after
returns-then-tick-clause-after c = λ k l m.
    let len = c.len-end.ensures.value in let test = c.loop-before-test.true in
    later_ticks c.args.self.now c.loop-before.before c.args.tick c.tick.ensures.timed (omega (arith, len, test))
    (let value = c.tick.ensures.value in let late = c.if-tick.true in omega (arith, value, late)) k l m

pub returns-then-last_tick-tick-clause-before : goal.returns-then-last_tick-tick-clause-before
returns-then-last_tick-tick-clause-before c =
    let limit = tick_of-limit c.args.self.now c.last_tick.ensures.timed c.len-end.result in
    let value = c.last_tick.ensures.value in
    omega (arith, limit, value)
