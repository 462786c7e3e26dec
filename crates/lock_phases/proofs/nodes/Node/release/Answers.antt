use Rattle.lock_phases.proofs.Rising.{IsStrictlyIncreasing-kept_locks}
use Rattle.lock_phases.proofs.nodes.Node.release.Goals as goal

pub invariant_of-self : goal.invariant_of-self
invariant_of-self c = record {
  proper = c.self.invariant.proper;
  locks = rw c.release.ensures (IsStrictlyIncreasing-kept_locks c.args.heard.now c.self.inside.locks.items c.self.invariant.locks);
}
