use Rattle.std.proofs.Common.{arith}
use Rattle.bound_witness.proofs.MissSearches.{NoMissUntil-pass, NoMissUntil-end}
use Rattle.bound_witness.proofs.communication_bounds.miss_of_length.Goals as goal
use Rattle.bound_witness.proofs.communication_bounds.miss_of_length.Goals.{else-tick-from-via-then-tick-from+else-is_miss, else-tick-from-via-else-tick-from}

pub loop-missed-preserved : goal.loop-missed-preserved
loop-missed-preserved c = NoMissUntil-pass c.args.set c.args.trace.now c.args.span c.args.sent c.loop-missed.missed
    (λ i e. elim c.else-tick-from.branch [
      | else-tick-from-via-then-tick-from+else-is_miss w ↦ (let f = w.if-is_miss.ensures.1 i in cc)
      | else-tick-from-via-else-tick-from w ↦ absurd (let n = w.if-tick-from.false in
          let v = c.tick.ensures.value in let u = c.tick-from.ensures.value in omega (arith, n, v, u, e))
    ]) c.loop-missed.invariant

pub returns : goal.returns
returns c = NoMissUntil-end c.args.set c.args.trace.now c.args.g c.args.span c.args.sent c.loop-missed.missed
    (omega arith) c.loop-missed.invariant
