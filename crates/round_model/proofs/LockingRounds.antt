-- A locking round keeps the invariants: what is locked is the owner's proposal.
use Rattle.std.proofs.Common.{ℕ, ◌≡◌, ◌≤◌, ◌⊎◌, inl, inr, true, Some, refl, sym, subst, ◌∙◌, arith}
use Rattle.std.specs.Prelude.{Contains}
use Rattle.round_model.proofs.Common.{Setup, phase_of, part_of, owner, State, LockPair, value_of, phase_of_lock}
use Rattle.round_model.proofs.Common.{IsToldToLock, LockingKeeps, LockingLocks, locking-keeps, locking-locks}
use Rattle.round_model.proofs.Common.{lock-said_by, Table, messages_heard, sender_of, body_of}
use Rattle.round_model.proofs.HeardMessages.{nodes_after, messages_heard-said}
use Rattle.round_model.proofs.Invariants.{is_locked_since, IsLockSince-from_test, is_locked_since-lock, IsAnchored, holders-kept, IsSafe}

-- a processor that hears a Lock on a value hears the owner's proposal
told-proposed : (c : Setup) (table : Table) (nodes : ℕ → State) (round p o v : ℕ) → IsToldToLock o (messages_heard c table nodes p round) v
    → (nodes o).proposal ≡ Some v
told-proposed c table nodes round p o v told =
    let h = messages_heard-said c table nodes p round told.message told.is_heard in
    subst (λ j. (nodes j).proposal ≡ Some v) told.sender
    (lock-said_by (nodes (sender_of told.message)) (body_of told.message) v h.said told.kind)

-- the invariants after a locking round
pub IsSafe-locking : (c : Setup) (table : Table) (nodes : ℕ → State) (round : ℕ) → part_of round ≡ 2 → IsSafe c nodes (phase_of round) 2
    → IsSafe c (nodes_after c table nodes round) (phase_of round) 3
IsSafe-locking c table nodes round e safe = record {
  past = record {
    begun = λ j lock d. begun j lock (fresh j lock d);
    earlier = λ l. absurd (omega arith);
  };
  fresh = record { proposed = λ _ j lock d h. proposed j lock h (fresh j lock d) };
  flags = record {
    acknowledging = λ j f. refl;
    locked = λ j f. flagged j ((locks j).owes f);
  };
  decisions = record { each = λ j v d. anchored v (safe.decisions.each j v (sym (keeps j).decision ∙ d)) };
}
  where
    phase : ℕ
    phase = phase_of round

    o : ℕ
    o = owner c.n phase

    after : ℕ → State
    after = nodes_after c table nodes round

    keeps : (j : ℕ) → LockingKeeps (nodes j) (after j)
    keeps j = locking-keeps c (nodes j) j round (messages_heard c table nodes j round) e

    locks : (j : ℕ) → LockingLocks (nodes j) (after j) o phase (messages_heard c table nodes j round)
    locks j = locking-locks c (nodes j) j round (messages_heard c table nodes j round) e

    -- a lock was held, or is a new one on the proposal
    fresh : (j : ℕ) (lock : LockPair) → Contains (after j).locks lock
        → Contains (nodes j).locks lock ⊎ ((phase_of_lock lock ≡ phase) × ((nodes o).proposal ≡ Some (value_of lock)))
    fresh j lock d = elim ((locks j).fresh lock d) [
      | inl h ↦ inl h
      | inr h ↦ inr (h.0, told-proposed c table nodes round j o (value_of lock) h.1)
    ]

    begun : (j : ℕ) (lock : LockPair) → Contains (nodes j).locks lock
        ⊎ ((phase_of_lock lock ≡ phase) × ((nodes o).proposal ≡ Some (value_of lock))) → phase_of_lock lock ≤ phase
    begun j lock (inl d) = safe.past.begun j lock d
    begun j lock (inr h) = let same = h.0 in omega arith

    proposed : (j : ℕ) (lock : LockPair) → phase_of_lock lock ≡ phase → Contains (nodes j).locks lock
        ⊎ ((phase_of_lock lock ≡ phase) × ((nodes o).proposal ≡ Some (value_of lock))) → (after o).proposal ≡ Some (value_of lock)
    proposed j lock h (inl d) = let l = safe.past.earlier (omega arith) j lock d in absurd (omega arith)
    proposed j lock h (inr p) = (keeps o).proposal ∙ p.1

    flagged : (j : ℕ) → ((nodes j).owes_ack ≡ true) ⊎ ((v : ℕ) × Contains (after j).locks (v, phase))
        → (v : ℕ) × Contains (after j).locks (v, phase)
    flagged j (inl f) = let p = safe.flags.acknowledging j f in absurd (omega arith)
    flagged j (inr h) = h

    -- who held a value since an earlier phase still does: the lock is kept, or replaced by a later one
    still : (anchor v j : ℕ) → anchor ≤ phase → is_locked_since anchor v (nodes j).locks ≡ true
        → is_locked_since anchor v (after j).locks ≡ true
    still anchor v j l h =
        let x = IsLockSince-from_test anchor v (nodes j).locks h in
        elim ((locks j).held x.lock x.held) [
          | inl d ↦ is_locked_since-lock anchor v (after j).locks x.lock d x.value x.since
          | inr d ↦ is_locked_since-lock anchor v (after j).locks (value_of x.lock, phase) d x.value l
        ]

    sole : (v : ℕ) (a : IsAnchored c nodes phase 2 v) (j : ℕ) (lock : LockPair) → a.anchor ≤ phase_of_lock lock
        → Contains (nodes j).locks lock ⊎ ((phase_of_lock lock ≡ phase) × ((nodes o).proposal ≡ Some (value_of lock))) → value_of lock ≡ v
    sole v a j lock l (inl d) = a.sole j lock d l
    sole v a j lock l (inr h) = a.proposed (omega arith) (omega arith) (value_of lock) h.1

    anchored : (v : ℕ) → IsAnchored c nodes phase 2 v → IsAnchored c after phase 3 v
    anchored v a = record {
      anchor = a.anchor;
      begun = a.begun;
      earlier = λ l. a.earlier (omega arith);
      holders = holders-kept c nodes after a.anchor v (λ j h. still a.anchor v j a.begun h) a.holders;
      sole = λ j lock d l. sole v a j lock l (fresh j lock d);
      proposed = λ _ _ w p. a.proposed (omega arith) (omega arith) w (sym (keeps o).proposal ∙ p);
    }
