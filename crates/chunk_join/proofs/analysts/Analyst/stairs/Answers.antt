use Rattle.std.proofs.Common.{◌≡◌, ◌-◌, ◌+◌, arith}
use Rattle.chunk_join.proofs.analysts.Analyst.stairs.Goals as goal

pub invariant_of-self : goal.invariant_of-self
invariant_of-self c = rw c.in_err-take_in.ensures.err c.self.invariant

pub take_in-requires-clause-before : goal.take_in-requires-clause-before
take_in-requires-clause-before c =
    let at : c.self.inside.closed_to + 1 - 1 ≡ c.self.inside.closed_to = omega arith in
    rw at c.self.invariant.1

pub stairs_from-requires-clause-before : goal.stairs_from-requires-clause-before
stairs_from-requires-clause-before c =
    let at : c.closed_ticks-to.result + 1 - 1 ≡ c.closed_ticks-to.result = omega arith in
    rw at c.in_ok-take_in.ensures.ok

pub invariant_of-self-2 : goal.invariant_of-self-2
invariant_of-self-2 c = (omega (arith, c.closed_ticks-to.ensures.value), c.in_ok-take_in.ensures.ok)
