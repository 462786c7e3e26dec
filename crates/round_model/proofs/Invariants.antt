-- The invariants of the rounds from which agreement follows. The coming round is a part, from 1 to 4, of a
-- phase; each invariant holds of the nodes before it, for any loss of messages.
use Rattle.std.proofs.Common.{ℕ, ◌≡◌, ◌+◌, ◌≤◌, ◌<◌, inl, inr, Bool, true, List, Some, nat_le, ◌&&◌, refl, sym, ◌∙◌, eq-eqb, arith}
use Rattle.std.specs.Prelude.{Contains, count_by, ◌==◌}
use Rattle.std.specs.List.{list_any}
use Rattle.std.proofs.lemmas.Bool.{eqb-true, leb-true, le-leb, cases_lt, and_parts}
use Rattle.round_model.proofs.Common.{Setup, list_any-found, list_any-at, owner, State, LockPair, value_of, phase_of_lock, count_by-found, count_by-le, processors}

-- Each lock is of a phase that has begun; before the locking round is over, of an earlier one.
pub record LocksArePast (nodes : ℕ → State) (phase part : ℕ) : Type 0 where
  pub begun : (j : ℕ) (lock : LockPair) → Contains (nodes j).locks lock → phase_of_lock lock ≤ phase
  pub earlier : part ≤ 2 → (j : ℕ) (lock : LockPair) → Contains (nodes j).locks lock → phase_of_lock lock < phase

-- Before the acknowledging round, each lock of this phase is on the proposal of its owner.
pub record FreshLocksAreProposed (c : Setup) (nodes : ℕ → State) (phase part : ℕ) : Type 0 where
  pub proposed : part ≡ 3 → (j : ℕ) (lock : LockPair)
      → Contains (nodes j).locks lock → phase_of_lock lock ≡ phase → (nodes (owner c.n phase)).proposal ≡ Some (value_of lock)

-- A flag is set only before the acknowledging round, and who has it set holds a lock of this phase.
pub record FlagsMeanFreshLocks (nodes : ℕ → State) (phase part : ℕ) : Type 0 where
  pub acknowledging : (j : ℕ) → (nodes j).owes_ack ≡ true → part ≡ 3
  pub locked : (j : ℕ) → (nodes j).owes_ack ≡ true → (v : ℕ) × Contains (nodes j).locks (v, phase)

-- if none is set
pub FlagsMeanFreshLocks-unset : (nodes : ℕ → State) (phase part : ℕ) → ((j : ℕ) → (nodes j).owes_ack ≡ true → ⊥)
    → FlagsMeanFreshLocks nodes phase part
FlagsMeanFreshLocks-unset nodes phase part unset =
    record { acknowledging = λ j f. absurd (unset j f); locked = λ j f. absurd (unset j f) }

-- whether v is locked, with this phase or a later one
abbrev pub is_locked_since : ℕ → ℕ → List LockPair → Bool
is_locked_since phase v locks = list_any (λ lock. value_of lock == v && nat_le phase (phase_of_lock lock)) locks

-- A value is anchored at a phase whose acknowledging round is over. More than t processors hold it locked
-- since that phase, nobody holds another value so, and no other value is proposed.
pub record IsAnchored (c : Setup) (nodes : ℕ → State) (phase part v : ℕ) : Type 0 where
  pub anchor : ℕ
  pub begun : anchor ≤ phase
  pub earlier : part ≤ 3 → anchor < phase
  pub holders : c.t + 1 ≤ count_by (λ j. is_locked_since anchor v (nodes j).locks) (processors c)
  pub sole : (j : ℕ) (lock : LockPair) → Contains (nodes j).locks lock → anchor ≤ phase_of_lock lock → value_of lock ≡ v
  pub proposed : 2 ≤ part → part ≤ 3 → (w : ℕ) → (nodes (owner c.n phase)).proposal ≡ Some w → w ≡ v

-- Each decision is anchored.
pub record DecisionsAreAnchored (c : Setup) (nodes : ℕ → State) (phase part : ℕ) : Type 0 where
  pub each : (j v : ℕ) → (nodes j).decision ≡ Some v → IsAnchored c nodes phase part v

-- all of these
pub record IsSafe (c : Setup) (nodes : ℕ → State) (phase part : ℕ) : Type 0 where
  pub past : LocksArePast nodes phase part
  pub fresh : FreshLocksAreProposed c nodes phase part
  pub flags : FlagsMeanFreshLocks nodes phase part
  pub decisions : DecisionsAreAnchored c nodes phase part

-- a lock held since a phase
pub record IsLockSince (phase v : ℕ) (locks : List LockPair) : Type 0 where
  pub lock : LockPair
  pub held : Contains locks lock
  pub value : value_of lock ≡ v
  pub since : phase ≤ phase_of_lock lock

-- if the test passes there is such a lock
pub IsLockSince-from_test : (phase v : ℕ) (locks : List LockPair) → is_locked_since phase v locks ≡ true → IsLockSince phase v locks
IsLockSince-from_test phase v locks e =
    let f = list_any-found (λ lock. value_of lock == v && nat_le phase (phase_of_lock lock)) locks e in
    let b = and_parts (value_of f.0 == v) (nat_le phase (phase_of_lock f.0)) f.2 in
    record { lock = f.0; held = f.1; value = eqb-true (value_of f.0) v b.0; since = leb-true phase (phase_of_lock f.0) b.1 }

-- with such a lock the test passes
pub is_locked_since-lock : (phase v : ℕ) (locks : List LockPair) (lock : LockPair)
    → Contains locks lock → value_of lock ≡ v → phase ≤ phase_of_lock lock → is_locked_since phase v locks ≡ true
is_locked_since-lock phase v locks lock d e l = list_any-at (λ x. value_of x == v && nat_le phase (phase_of_lock x)) locks lock d
    (rw (eq-eqb (value_of lock) v e, le-leb phase (phase_of_lock lock) l) refl)

-- those who hold a value go on holding it, if each does
pub holders-kept : (c : Setup) (nodes after : ℕ → State) (phase v : ℕ)
    → ((j : ℕ) → is_locked_since phase v (nodes j).locks ≡ true → is_locked_since phase v (after j).locks ≡ true)
    → c.t + 1 ≤ count_by (λ j. is_locked_since phase v (nodes j).locks) (processors c)
    → c.t + 1 ≤ count_by (λ j. is_locked_since phase v (after j).locks) (processors c)
holders-kept c nodes after phase v kept l =
    let more = count_by-le (λ j. is_locked_since phase v (nodes j).locks)
    (λ j. is_locked_since phase v (after j).locks) (processors c) kept in
    omega arith

-- of two anchored values the one at the earlier phase is the only one that is held since
same-earlier : (c : Setup) (nodes : ℕ → State) (phase part v w : ℕ)
    (a : IsAnchored c nodes phase part v) (b : IsAnchored c nodes phase part w) → a.anchor ≤ b.anchor → w ≡ v
same-earlier c nodes phase part v w a b l =
    let more = b.holders in
    let j = count_by-found (λ i. is_locked_since b.anchor w (nodes i).locks) (processors c) (omega arith) in
    let h = IsLockSince-from_test b.anchor w (nodes j.0).locks j.2 in
    sym h.value ∙ a.sole j.0 h.lock h.held (omega (arith, h.since))

-- any two anchored values are equal
pub IsAnchored-same : (c : Setup) (nodes : ℕ → State) (phase part v w : ℕ)
    → IsAnchored c nodes phase part v → IsAnchored c nodes phase part w → v ≡ w
IsAnchored-same c nodes phase part v w a b = elim (cases_lt a.anchor b.anchor) [
  | inl l ↦ sym (same-earlier c nodes phase part v w a b (omega arith))
  | inr l ↦ same-earlier c nodes phase part w v b a (omega arith)
]
