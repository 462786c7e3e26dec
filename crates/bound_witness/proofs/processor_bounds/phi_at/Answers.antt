use Rattle.std.proofs.Common.{◌+◌, arith}
use Rattle.bound_witness.proofs.GapSearches.{NamesGap-found}
use Rattle.step_trace.proofs.BoundLaws.{NamesGap-steady, NamesGap-refutes}
use Rattle.bound_witness.proofs.processor_bounds.phi_at.Goals as goal

pub returns-clause-gap : goal.returns-clause-gap
returns-clause-gap c = NamesGap-found c.args.set c.args.trace.now c.args.g
    c.least_phi-phi.result c.last_gap_of_length.result c.least_phi-phi.ensures.least c.if-phi-eq1.false c.last_gap_of_length.ensures

pub returns-clause-steady : goal.returns-clause-steady
returns-clause-steady c = λ o _ n. NamesGap-steady c.args.set c.args.trace.now c.args.g
    (c.args.g + 1) c.least_phi-phi.result c.last_gap_of_length.result o (omega arith) (returns-clause-gap c) n

pub returns-clause-refutes : goal.returns-clause-refutes
returns-clause-refutes c = NamesGap-refutes c.args.set c.args.trace.now c.args.g c.least_phi-phi.result c.last_gap_of_length.result
    (returns-clause-gap c)
