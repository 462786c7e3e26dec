use Rattle.std.proofs.Common.{arith}
use Rattle.lock_phases.proofs.LockPlaces.{put_lock-held, put_lock-fresh}
use Rattle.lock_phases.proofs.locks.find_lock.Goals as goal

pub returns-then-v-value-clause-replaced : goal.returns-then-v-value-clause-replaced
returns-then-v-value-clause-replaced c = λ phase. put_lock-held c.args.v phase c.args.locks.now c.loop-i.i
    (0, 0) (omega arith) c.loop-i.invariant c.if-v-value.true

pub returns-then-v-value-2-clause-fresh : goal.returns-then-v-value-2-clause-fresh
returns-then-v-value-2-clause-fresh c = λ phase. put_lock-fresh c.args.v phase c.args.locks.now c.loop-i.i
    (0, 0) (omega arith) c.loop-i.invariant (λ _. c.if-v-value-2.true)

pub returns-clause-fresh : goal.returns-clause-fresh
returns-clause-fresh c = λ phase. put_lock-fresh c.args.v phase c.args.locks.now _
    (0, 0) (omega arith) (λ k d h. c.loop-i.invariant k d (omega arith)) (λ h. absurd (omega arith))
