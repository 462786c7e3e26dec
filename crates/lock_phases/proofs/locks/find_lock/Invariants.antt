use Rattle.lock_phases.proofs.LockPlaces.{AreBelow}
use Rattle.lock_phases.proofs.locks.find_lock.Given as goal

abbrev pub invariant-loop-i : goal.invariant-loop-i
invariant-loop-i l = AreBelow l.v l.locks l.i
