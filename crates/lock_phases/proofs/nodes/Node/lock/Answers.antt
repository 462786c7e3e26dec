use Rattle.lock_phases.proofs.Rising.{IsStrictlyIncreasing-put_lock}
use Rattle.lock_phases.proofs.nodes.Node.lock.Goals as goal

pub invariant_of-self-in-Some : goal.invariant_of-self-in-Some
invariant_of-self-in-Some c = record {
  proper = c.self.invariant.proper;
  locks = rw c.in_ok-put_lock.ensures.ok
      (IsStrictlyIncreasing-put_lock c.in-Some.v c.args.phase c.self.inside.locks.items c.self.invariant.locks);
}
