use Rattle.std.proofs.Common.{◌+◌, arith}
use Rattle.bound_witness.proofs.Common.{DeltaHolds, IsLeastBound-none_below, DeltaHolds-past_end}
use Rattle.bound_witness.proofs.communication_bounds.least_delta.Goals as goal

pub returns-clause-least : goal.returns-clause-least
returns-clause-least c = IsLeastBound-none_below (DeltaHolds c.args.set c.args.trace.now c.args.g) (c.last_tick-end.result + 1)
    (omega arith) (DeltaHolds-past_end c.args.set c.args.trace.now c.args.g (c.last_tick-end.result + 1) c.last_tick-end.ensures.timed
    (let v = c.last_tick-end.ensures.value in omega (arith, v))) (λ e l. c.loop-d.invariant e (omega arith))
