use Rattle.std.proofs.Common.{◌+◌, arith}
use Rattle.bound_witness.proofs.MissSearches.{NamesMiss-found}
use Rattle.step_trace.proofs.BoundLaws.{NamesMiss-steady, NamesMiss-refutes}
use Rattle.bound_witness.proofs.communication_bounds.delta_at.Goals as goal

pub returns-clause-miss : goal.returns-clause-miss
returns-clause-miss c = NamesMiss-found c.args.set c.args.trace.now c.args.g c.least_delta-delta.result
    c.last_miss_of_length.result c.least_delta-delta.ensures.least c.if-delta-eq1.false c.last_miss_of_length.ensures

pub returns-clause-steady : goal.returns-clause-steady
returns-clause-steady c = λ o _ n. NamesMiss-steady c.args.set c.args.trace.now c.args.g
    (c.args.g + 1) c.least_delta-delta.result c.last_miss_of_length.result o c.least_delta-delta.ensures.timed
    (omega arith) (returns-clause-miss c) n

pub returns-clause-refutes : goal.returns-clause-refutes
returns-clause-refutes c = NamesMiss-refutes c.args.set c.args.trace.now c.args.g c.least_delta-delta.result c.last_miss_of_length.result
    (returns-clause-miss c)
