-- What a node has locked or proposes is in its own PROPER, and so is its initial value, for any loss of messages.
use Rattle.std.proofs.Common.{ℕ, ◌≡◌, ◌⊎◌, inl, inr, zero, suc, Some, List, [], sym, subst}
use Rattle.std.specs.Prelude.{Contains}
use Rattle.round_model.proofs.Common.{Setup, Contains-head, Contains-nil, phase_of, part_of, owner, State, LockPair}
use Rattle.round_model.proofs.Common.{value_of, phase_of_lock, Message, sender_of, body_of, IsHeardListed, IsToldToLock}
use Rattle.round_model.proofs.Common.{TakesIn, part_of-cases, listing-keeps, locking-locks, acknowledging-keeps}
use Rattle.round_model.proofs.Common.{releasing-keeps, proper-taken_in, proposal-origin, listed-said_by, lock-said_by}
use Rattle.lock_phases.specs.NodeFunctions.{next}
use Rattle.round_model.specs.RoundStates.{Table, initial_value, messages_heard, state_after}
use Rattle.round_model.proofs.HeardMessages.{nodes_after, messages_heard-said}

-- a lock was held before a round, or is on a value that the owner's Lock asked to lock
lock-origin : (c : Setup) (s : State) (me round : ℕ) (heard : List Message) (lock : LockPair) → Contains
    (next c s me round heard).locks lock → Contains s.locks lock ⊎ IsToldToLock (owner c.n (phase_of round)) heard (value_of lock)
lock-origin c s me round heard lock d = go (part_of-cases round)
  where
    told : Contains s.locks lock ⊎ ((phase_of_lock lock ≡ phase_of round) × IsToldToLock (owner c.n (phase_of round)) heard (value_of lock))
        → Contains s.locks lock ⊎ IsToldToLock (owner c.n (phase_of round)) heard (value_of lock)
    told (inl h) = inl h
    told (inr h) = inr h.1

    go : (part_of round ≡ 1) ⊎ ((part_of round ≡ 2) ⊎ ((part_of round ≡ 3) ⊎ (part_of round ≡ 4)))
        → Contains s.locks lock ⊎ IsToldToLock (owner c.n (phase_of round)) heard (value_of lock)
    go (inl e) = inl (subst (λ xs. Contains xs lock) (listing-keeps c s me round heard e).locks d)
    go (inr (inl e)) = told ((locking-locks c s me round heard e).fresh lock d)
    go (inr (inr (inl e))) = inl (subst (λ xs. Contains xs lock) (acknowledging-keeps c s me round heard e).locks d)
    go (inr (inr (inr e))) = inl ((releasing-keeps c s me round heard e).locks lock d)

-- The values that a node has locked or proposes are in its PROPER.
pub record KeepsProper (s : State) : Type 0 where
  pub locks : (lock : LockPair) → Contains s.locks lock → Contains s.proper (value_of lock)
  pub proposal : (v : ℕ) → s.proposal ≡ Some v → Contains s.proper v

-- a round keeps it, of all nodes
KeepsProper-after : (c : Setup) (table : Table) (nodes : ℕ → State) (round : ℕ)
    → ((p : ℕ) → KeepsProper (nodes p)) → (p : ℕ) → KeepsProper (nodes_after c table nodes round p)
KeepsProper-after c table nodes round known p = record {
  locks = λ lock d. locked lock (lock-origin c (nodes p) p round heard lock d);
  proposal = λ v e. proposed v (proposal-origin c (nodes p) p round heard v e);
}
  where
    heard : List Message
    heard = messages_heard c table nodes p round

    after : State
    after = nodes_after c table nodes round p

    proper : TakesIn heard (nodes p).proper after.proper
    proper = proper-taken_in c (nodes p) p round heard

    -- what the sender of a message that is heard has in its PROPER
    told : (m : Message) (v : ℕ) → Contains heard m → Contains (nodes (sender_of m)).proper v → Contains after.proper v
    told m v h d =
        let said = (messages_heard-said c table nodes p round m h).said in
        proper.taken m v h (subst (λ xs. Contains xs v) (sym said.proper) d)

    locked : (lock : LockPair) → Contains (nodes p).locks lock ⊎ IsToldToLock (owner c.n (phase_of round)) heard (value_of lock)
        → Contains after.proper (value_of lock)
    locked lock (inl d) = proper.stays (value_of lock) ((known p).locks lock d)
    locked lock (inr t) =
        let said = (messages_heard-said c table nodes p round t.message t.is_heard).said in
        let proposal = lock-said_by (nodes (sender_of t.message)) (body_of t.message) (value_of lock) said t.kind in
        told t.message (value_of lock) t.is_heard ((known (sender_of t.message)).proposal (value_of lock) proposal)

    proposed : (v : ℕ) → ((nodes p).proposal ≡ Some v) ⊎ IsHeardListed heard v → Contains after.proper v
    proposed v (inl e) = proper.stays v ((known p).proposal v e)
    proposed v (inr r) =
        let said = (messages_heard-said c table nodes p round r.0 r.1).said in
        told r.0 v r.1 (listed-said_by (nodes (sender_of r.0)) (body_of r.0) v said r.2).0

-- so it holds after any number of rounds
pub KeepsProper-state_after : (c : Setup) (table : Table) (rounds p : ℕ) → KeepsProper (state_after c table rounds p)
unfolding state_after
KeepsProper-state_after c table zero p = record { locks = λ lock d. absurd (Contains-nil lock d); proposal = λ v e. cc }
KeepsProper-state_after c table (suc rounds) p = KeepsProper-after c table
    (state_after c table rounds) (suc rounds) (KeepsProper-state_after c table rounds) p

-- a processor's initial value stays in its PROPER
pub initial_value-proper : (c : Setup) (table : Table) (rounds p : ℕ) → Contains (state_after c table rounds p).proper (initial_value c p)
unfolding state_after
initial_value-proper c table zero p = Contains-head (initial_value c p) []
initial_value-proper c table (suc rounds) p = (proper-taken_in c (state_after c table rounds p) p (suc rounds) _).stays
    (initial_value c p) (initial_value-proper c table rounds p)
