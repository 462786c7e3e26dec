use Rattle.std.proofs.Common.{arith}
use Rattle.step_trace.proofs.TickPositions.{tick_of-limit}
use Rattle.step_trace.proofs.traces.Trace.tick_at.Goals as goal

pub returns-clause-limit : goal.returns-clause-limit
returns-clause-limit c =
    let time = c.self.invariant.0.time in
    let low = tick_of-limit _ time c.args.no in
    let high = time.end in
    rw c.tick.ensures (omega (arith, low, high))
