use Rattle.std.proofs.Common.{◌≡◌, drop}
use Rattle.lock_phases.specs.Locks.{heard_lock}
use Rattle.lock_phases.proofs.locks.heard_lock.Given as goal

abbrev pub invariant-loop-sender : goal.invariant-loop-sender
invariant-loop-sender l = heard_lock l.owner (drop l.sender-index l.heard) ≡ heard_lock l.owner l.heard
