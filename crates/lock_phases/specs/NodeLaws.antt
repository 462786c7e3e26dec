-- The laws of the node functions of Algorithm 1 (section 3), by the part of the phase: what holds of a node before
-- and after a round, for any messages heard.
use Rattle.std.specs.Prelude.{ℕ, ◌≡◌, ◌↔◌, ◌⊎◌, ◌+◌, ◌-◌, ◌<◌, ◌≤◌, List, Option, Some}
use Rattle.std.specs.Prelude.{None, Bool, true, false, IsSome, unwrap_or, Contains}
use Rattle.step_trace.specs.Configurations.{Setup, IsProc}
use Rattle.lock_phases.specs.Nodes.{State, LockPair, value_of, phase_of_lock}
use Rattle.lock_phases.specs.Messages.{Message, body_of}
use Rattle.lock_phases.specs.Hearing.{IsHeardProper, lists_with, IsToldToLock, IsReleasedByTold}
use Rattle.lock_phases.specs.Hearing.{IsHeardToSay, listing, acknowledging, number_of}

-- Every round

-- PROPER after a round has what it had before and each PROPER that was heard, and nothing else.
pub record TakesIn (heard : List Message) (before after : List ℕ) : Type 0 where
  pub stays : (v : ℕ) → Contains before v → Contains after v
  pub taken : (m : Message) (v : ℕ) → Contains heard m → Contains (body_of m).proper v → Contains after v
  pub origin : (v : ℕ) → Contains after v → Contains before v ⊎ IsHeardProper heard v

-- Listing rounds

-- v is acceptable to a node with no lock on any value except possibly v
abbrev pub IsAcceptable : List LockPair → ℕ → Type 0
IsAcceptable locks v = (lock : LockPair) → Contains locks lock → value_of lock ≡ v

-- a list has exactly the values that are proper and acceptable
abbrev pub IsListOf : State → List ℕ → Type 0
IsListOf s values = (v : ℕ) → Contains values v ↔ (Contains s.proper v × IsAcceptable s.locks v)

-- A listing round changes no lock, no decision and nothing that is owed.
pub record ListingKeeps (s after : State) : Type 0 where
  pub locks : after.locks ≡ s.locks
  pub owes_ack : after.owes_ack ≡ s.owes_ack
  pub decision : after.decision ≡ s.decision

-- v is in at least so many of the lists that are heard, and no lesser value is.
pub record IsLeastListed (quorum : ℕ) (heard : List Message) (v : ℕ) : Type 0 where
  pub quorum_lists : quorum ≤ lists_with heard v
  pub no_lesser : (u : ℕ) → quorum ≤ lists_with heard u → v ≤ u

-- the least value that is in at least so many of the lists that are heard; none if there is no such value
abbrev pub IsProposal : ℕ → List Message → Option ℕ → Type 0
IsProposal quorum heard None = (u : ℕ) → lists_with heard u < quorum
IsProposal quorum heard (Some v) = IsLeastListed quorum heard v

-- the quorum step of agreement: at most t processors refuse what is proposed, if none that refuses it is
-- heard to list it
abbrev pub IsRefusedByFew : Setup → (ℕ → Option Message) → Option ℕ → Type 0
IsRefusedByFew c heard_of proposal = (w : ℕ) (refuses : ℕ → Bool) → proposal ≡ Some w
    → ((j : ℕ) → refuses j ≡ true → IsHeardToSay heard_of (listing w) j → ⊥)
    → number_of c.n refuses ≤ c.t

-- something is proposed if N - t processors are heard to list one value
abbrev pub IsMadeByQuorum : Setup → (ℕ → Option Message) → Option ℕ → Type 0
IsMadeByQuorum c heard_of proposal = (v : ℕ) (lists_it : ℕ → Bool) → c.n - c.t ≤ number_of c.n lists_it
    → ((j : ℕ) → IsProc c j → lists_it j ≡ true → IsHeardToSay heard_of (listing v) j)
    → IsSome proposal

-- Locking rounds

-- A locking round changes no proposal or decision.
pub record LockingKeeps (s after : State) : Type 0 where
  pub proposal : after.proposal ≡ s.proposal
  pub decision : after.decision ≡ s.decision

-- A locking round puts a lock of this phase only if the owner's Lock on its value is heard. A lock that was held
-- is held, or was replaced by one of this phase on its value. Who owes an acknowledgement owed it before, or holds
-- a lock of this phase.
pub record LockingLocks (s after : State) (owner phase : ℕ) (heard : List Message) : Type 0 where
  pub fresh : (lock : LockPair) → Contains after.locks lock
      → Contains s.locks lock ⊎ ((phase_of_lock lock ≡ phase) × IsToldToLock owner heard (value_of lock))
  pub held : (lock : LockPair) → Contains s.locks lock → Contains after.locks lock
      ⊎ Contains after.locks (value_of lock, phase)
  pub owes : after.owes_ack ≡ true → (s.owes_ack ≡ true) ⊎ ((v : ℕ) × Contains after.locks (v, phase))

-- A node that heard no Lock keeps its locks, and owes what it owed.
pub record IsUntold (s after : State) : Type 0 where
  pub locks : after.locks ≡ s.locks
  pub owes_ack : after.owes_ack ≡ s.owes_ack

-- Who obeys a Lock on v holds v locked in this phase, and owes an acknowledgement.
pub record Obeys (after : State) (v phase : ℕ) : Type 0 where
  pub lock : Contains after.locks (v, phase)
  pub owes_ack : after.owes_ack ≡ true

-- v is locked in this phase alone
abbrev pub IsLockedOnce : List LockPair → ℕ → ℕ → Type 0
IsLockedOnce locks v phase = (lock : LockPair) → Contains locks lock → value_of lock ≡ v → phase_of_lock lock ≡ phase

-- Acknowledging rounds

-- An acknowledging round changes no lock, and clears the proposal and what is owed.
pub record AcknowledgingKeeps (s after : State) : Type 0 where
  pub locks : after.locks ≡ s.locks
  pub proposal : after.proposal ≡ None
  pub owes_ack : after.owes_ack ≡ false

-- An owner decides its proposal v, acknowledged by more than t processors.
pub record IsAcknowledged (c : Setup) (s : State) (me owner : ℕ) (acknowledges : ℕ → Bool) (v : ℕ) : Type 0 where
  pub owns : me ≡ owner
  pub proposal : s.proposal ≡ Some v
  pub acks : c.t + 1 ≤ number_of c.n acknowledges

-- the decision step of agreement: a decision was there, or it is the proposal, acknowledged by more than t
-- processors, if each that is heard to acknowledge does so
abbrev pub IsAcknowledgedByQuorum : Setup → State → State → ℕ → ℕ → (ℕ → Option Message) → Type 0
IsAcknowledgedByQuorum c s after me owner heard_of = (v : ℕ) (acknowledges : ℕ → Bool) → after.decision ≡ Some v
    → ((j : ℕ) → IsHeardToSay heard_of acknowledging j → acknowledges j ≡ true)
    → (s.decision ≡ Some v) ⊎ IsAcknowledged c s me owner acknowledges v

-- an owner's proposal is its decision, if it had none, if more than t processors are heard to acknowledge it
abbrev pub IsDecidedByQuorum : Setup → State → State → (ℕ → Option Message) → Type 0
IsDecidedByQuorum c s after heard_of = (v : ℕ) (acknowledges : ℕ → Bool) → s.proposal ≡ Some v
    → c.t + 1 ≤ number_of c.n acknowledges
    → ((j : ℕ) → IsProc c j → acknowledges j ≡ true → IsHeardToSay heard_of acknowledging j)
    → after.decision ≡ Some (unwrap_or s.decision v)

-- Lock-release rounds

-- A lock-release round changes nothing but the locks. It adds none, keeps each that no heard lock releases, and
-- keeps none that one does.
pub record ReleasingKeeps (s after : State) (heard : List Message) : Type 0 where
  pub proposal : after.proposal ≡ s.proposal
  pub owes_ack : after.owes_ack ≡ s.owes_ack
  pub decision : after.decision ≡ s.decision
  pub locks : (lock : LockPair) → Contains after.locks lock → Contains s.locks lock
  pub held : (lock : LockPair) → Contains s.locks lock → (IsReleasedByTold heard lock → ⊥) → Contains after.locks lock
  pub released : (lock : LockPair) → IsReleasedByTold heard lock → Contains after.locks lock → ⊥
