-- A locking round: who hears the owner's Lock holds a lock of this phase, and owes an acknowledgement.
use Rattle.std.proofs.Common.{ℕ, ◌≡◌, ◌⊎◌, inl, inr, Bool, true, false, eqb, List, map, Option, Some, None, refl, sym, ap, subst, ◌∙◌, eq-eqb}
use Rattle.std.specs.Prelude.{Contains}
use Rattle.std.specs.List.Sorted.{IsStrictlyIncreasing}
use Rattle.std.proofs.lemmas.Bool.{eqb-true}
use Rattle.lock_phases.proofs.Common.{Setup, phase_of, part_of, owner, Locking, State, IsRising, LockPair, value_of}
use Rattle.lock_phases.proofs.Common.{phase_of_lock, Message, sender_of, heard_lock, put_lock, IsToldToLock}
use Rattle.lock_phases.proofs.Common.{LockingKeeps, LockingLocks, IsUntold, Obeys, IsLockedOnce}
use Rattle.lock_phases.specs.NodeFunctions.{next_in, next, after_locking}
use Rattle.lock_phases.proofs.RoundLaws.{part_at-locking, next-in, with_proper_heard}
use Rattle.lock_phases.proofs.LockLaws.{Contains-put_lock_cases, Contains-put_lock_new, Contains-put_lock_old, heard_lock-from_owner, heard_lock-told}
use Rattle.lock_phases.proofs.Rising.{same_lock, IsStrictlyIncreasing-put_lock}

-- locking changes no PROPER, proposal or decision
pub record AfterLockingKeeps (s after : State) : Type 0 where
  pub proper : after.proper ≡ s.proper
  pub proposal : after.proposal ≡ s.proposal
  pub decision : after.decision ≡ s.decision

-- so locking does
pub after_locking-keeps : (s : State) (phase : ℕ) (asked : Option ℕ) → AfterLockingKeeps s (after_locking s phase asked)
after_locking-keeps s phase None = record { proper = refl; proposal = refl; decision = refl }
after_locking-keeps s phase (Some v) = record { proper = refl; proposal = refl; decision = refl }

-- a locking round changes no proposal or decision
pub locking-keeps : (c : Setup) (s : State) (me round : ℕ) (heard : List Message)
    → part_of round ≡ 2 → LockingKeeps s (next c s me round heard)
locking-keeps c s me round heard e =
    let n = next-in Locking c s me round heard (part_at-locking round e) in
    let k = after_locking-keeps (with_proper_heard s heard) (phase_of round) (heard_lock (owner c.n (phase_of round)) heard) in
    record {
      proposal = ap (λ (x : State). x.proposal) n ∙ k.proposal;
      decision = ap (λ (x : State). x.decision) n ∙ k.decision;
    }

-- A locking round puts a lock of this phase if the owner's Lock is heard, and with it the node owes an acknowledgement.
-- A lock that it replaces was on the same value.
pub locking-locks : (c : Setup) (s : State) (me round : ℕ) (heard : List Message) → part_of round ≡ 2
    → LockingLocks s (next c s me round heard) (owner c.n (phase_of round)) (phase_of round) heard
locking-locks c s me round heard e = subst (λ x. LockingLocks s x o k heard) (sym n) (go (heard_lock o heard) refl)
  where
    o : ℕ
    o = owner c.n (phase_of round)

    k : ℕ
    k = phase_of round

    n : next c s me round heard ≡ next_in Locking c (with_proper_heard s heard) me (phase_of round) heard
    n = next-in Locking c s me round heard (part_at-locking round e)

    fresh : (v : ℕ) → heard_lock o heard ≡ Some v → (lock : LockPair) → (lock ≡ (v, k)) ⊎ Contains s.locks lock
        → Contains s.locks lock ⊎ ((phase_of_lock lock ≡ k) × IsToldToLock o heard (value_of lock))
    fresh v h lock (inl p) =
        inr (ap phase_of_lock p, subst (IsToldToLock o heard) (sym (ap value_of p)) (heard_lock-from_owner o heard v h))
    fresh v h lock (inr c) = inl c

    held : (v : ℕ) (lock : LockPair) → Contains s.locks lock → (b : Bool) → eqb (value_of lock) v ≡ b
        → Contains (put_lock v k s.locks) lock ⊎ Contains (put_lock v k s.locks) (value_of lock, k)
    held v lock c true t =
        inr (subst (λ x. Contains (put_lock v k s.locks) (x, k)) (sym (eqb-true (value_of lock) v t)) (Contains-put_lock_new v k s.locks))
    held v lock c false t = inl (Contains-put_lock_old v k s.locks lock c (λ h. let clash = sym (eq-eqb (value_of lock) v h) ∙ t in cc))

    go : (a : Option ℕ) → heard_lock o heard ≡ a → LockingLocks s (after_locking (with_proper_heard s heard) k a) o k heard
    go None h = record { fresh = λ lock d. inl d; held = λ lock d. inl d; owes = λ f. inl f }
    go (Some v) h = record {
      fresh = λ lock d. fresh v h lock (Contains-put_lock_cases v k s.locks lock d);
      held = λ lock d. held v lock d (eqb (value_of lock) v) refl;
      owes = λ f. inr (v, Contains-put_lock_new v k s.locks);
    }

-- Who hears no Lock of the owner has the locks that it had, and owes what it owed.
pub locking-untold : (c : Setup) (s : State) (me round : ℕ) (heard : List Message) → part_of round ≡ 2
    → ((v : ℕ) → IsToldToLock (owner c.n (phase_of round)) heard v → ⊥) → IsUntold s (next c s me round heard)
locking-untold c s me round heard e silent = subst (IsUntold s) (sym n) (go (heard_lock o heard) refl)
  where
    o : ℕ
    o = owner c.n (phase_of round)

    n : next c s me round heard ≡ next_in Locking c (with_proper_heard s heard) me (phase_of round) heard
    n = next-in Locking c s me round heard (part_at-locking round e)

    go : (a : Option ℕ) → heard_lock o heard ≡ a → IsUntold s (after_locking (with_proper_heard s heard) (phase_of round) a)
    go None h = record { locks = refl; owes_ack = refl }
    go (Some v) h = absurd (silent v (heard_lock-from_owner o heard v h))

-- who hears the owner's Lock locks its value in this phase
locking-puts : (c : Setup) (s : State) (me round : ℕ) (heard : List Message) (v : ℕ)
    → part_of round ≡ 2 → IsStrictlyIncreasing (map sender_of heard) → IsToldToLock (owner c.n (phase_of round)) heard v
    → next c s me round heard ≡ after_locking (with_proper_heard s heard) (phase_of round) (Some v)
locking-puts c s me round heard v e rise told =
    next-in Locking c s me round heard (part_at-locking round e)
    ∙ ap (after_locking (with_proper_heard s heard) (phase_of round)) (heard_lock-told (owner c.n (phase_of round)) heard v rise told)

-- It holds the lock then, and owes an acknowledgement.
pub locking-told : (c : Setup) (s : State) (me round : ℕ) (heard : List Message) (v : ℕ) → part_of round ≡ 2 → IsStrictlyIncreasing
    (map sender_of heard) → IsToldToLock (owner c.n (phase_of round)) heard v → Obeys (next c s me round heard) v (phase_of round)
locking-told c s me round heard v e rise told =
    subst (λ x. Obeys x v (phase_of round)) (sym (locking-puts c s me round heard v e rise told))
    (record { lock = Contains-put_lock_new v (phase_of round) s.locks; owes_ack = refl })

-- It holds no other lock on the value, so an older one was replaced.
pub locking-replaced : (c : Setup) (s : State) (me round : ℕ) (heard : List Message) (v : ℕ) → part_of round ≡ 2 → IsRising s
    → IsStrictlyIncreasing (map sender_of heard) → IsToldToLock (owner c.n (phase_of round)) heard v
    → IsLockedOnce (next c s me round heard).locks v (phase_of round)
locking-replaced c s me round heard v e rising rise told =
    subst (λ (x : State). IsLockedOnce x.locks v (phase_of round)) (sym (locking-puts c s me round heard v e rise told))
    (λ lock d on_v. ap phase_of_lock (same_lock (put_lock v (phase_of round) s.locks) (IsStrictlyIncreasing-put_lock v
    (phase_of round) s.locks rising.locks) lock (v, phase_of round) d (Contains-put_lock_new v (phase_of round) s.locks) on_v))
