use Rattle.lock_phases.proofs.Rising.{IsStrictlyIncreasing-take_in}
use Rattle.lock_phases.proofs.nodes.Node.compute.Goals as goal

pub invariant_of-self : goal.invariant_of-self
invariant_of-self c =
    let grown = rw c.in-Some.is at c.in_ok-grown.ensures.ok in
    record {
      proper = rw (c.set.ensures, grown, c.as_slice.ensures)
          (IsStrictlyIncreasing-take_in c.self.inside.proper c.args.heard.now c.self.invariant.proper);
      locks = c.self-2.invariant.locks;
    }
