use Rattle.std.proofs.Common.{arith}
use Rattle.bound_witness.proofs.GapSearches.{PhiHolds-from_all, IsNamedGap-found}
use Rattle.bound_witness.proofs.processor_bounds.last_gap_of_length.Goals as goal

pub returns-in-Some : goal.returns-in-Some
returns-in-Some c =
    IsNamedGap-found c.args.set c.args.trace.now c.args.g c.args.span c.in-Some.proc _ c.loop-from.from c.requires.start
    c.requires.positive (omega arith) (omega arith) (omega arith)
    c.in-Some.ensures c.loop-from.invariant

pub returns : goal.returns
returns c = PhiHolds-from_all c.args.set c.args.trace.now c.args.g c.args.span c.loop-from.from (omega arith) c.loop-from.invariant
