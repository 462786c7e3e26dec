use Rattle.lock_phases.proofs.LockingLaws.{locking-keeps, locking-locks, locking-told, locking-replaced, locking-untold}
use Rattle.lock_phases.proofs.laws.locking_laws.Goals as goal

pub returns-clause-keeps : goal.returns-clause-keeps
returns-clause-keeps c = locking-keeps

pub returns-clause-locks : goal.returns-clause-locks
returns-clause-locks c = locking-locks

pub returns-clause-told : goal.returns-clause-told
returns-clause-told c = locking-told

pub returns-clause-replaced : goal.returns-clause-replaced
returns-clause-replaced c = locking-replaced

pub returns-clause-untold : goal.returns-clause-untold
returns-clause-untold c = locking-untold
