-- What is heard and sent in a round, in the words of the laws of the node functions (section 3).
use Rattle.std.specs.Prelude.{ℕ, ◌≡◌, ◌≢◌, ◌≤◌, List, Option, Some, Bool, true, Contains, count_by, filter_map}
use Rattle.std.specs.List.{range_with_len}
use Rattle.lock_phases.specs.declared.bodies.Kind.{Kind}
use Rattle.lock_phases.specs.declared.bodies.Kind.TheVariants.{List as Listed, Lock, Ack, Locks}
use Rattle.lock_phases.specs.declared.bodies.Body.{Body}
use Rattle.lock_phases.specs.Nodes.{State, LockPair, value_of, phase_of_lock}
use Rattle.lock_phases.specs.Messages.{Message, sender_of, body_of, listed_values, told_locks, is_ack}
use Rattle.lock_phases.specs.Quorums.{lists}
use Rattle.lock_phases.specs.NodeFunctions.{values_to_list}

-- v is in a PROPER that is heard
abbrev pub IsHeardProper : List Message → ℕ → Type 0
IsHeardProper heard v = (m : Message) × Contains heard m × Contains (body_of m).proper v

-- v is in a list that is heard
abbrev pub IsHeardListed : List Message → ℕ → Type 0
IsHeardListed heard v = (m : Message) × Contains heard m × Contains (listed_values (body_of m).kind) v

-- in how many of the lists that are heard v is
abbrev pub lists_with : List Message → ℕ → ℕ
lists_with heard v = count_by (λ m. lists m v) heard

-- a Lock of the owner on this value is heard
pub record IsToldToLock (owner : ℕ) (heard : List Message) (v : ℕ) : Type 0 where
  pub message : Message
  pub is_heard : Contains heard message
  pub sender : sender_of message ≡ owner
  pub kind : (body_of message).kind ≡ Lock v

-- this lock is in a heard message
pub record IsTold (heard : List Message) (told : LockPair) : Type 0 where
  pub message : Message
  pub is_heard : Contains heard message
  pub tells : Contains (told_locks (body_of message).kind) told

-- a heard lock releases this one: it is on another value, and of no lower phase
pub record IsReleasedByTold (heard : List Message) (lock : LockPair) : Type 0 where
  pub releasing : LockPair
  pub told : IsTold heard releasing
  pub other : value_of releasing ≢ value_of lock
  pub later : phase_of_lock lock ≤ phase_of_lock releasing

-- At most one message of each of n processors, in their order: heard_of has what is heard of each, if anything.
abbrev pub heard_from : ℕ → (ℕ → Option Message) → List Message
heard_from n heard_of = filter_map heard_of (range_with_len 1 n)

-- this processor is heard to say something: its message is heard, and passes the test of what is said
pub record IsHeardToSay (heard_of : ℕ → Option Message) (says : Message → Bool) (j : ℕ) : Type 0 where
  pub message : Message
  pub is_heard : heard_of j ≡ Some message
  pub said : says message ≡ true

-- a message lists v
abbrev pub listing : ℕ → Message → Bool
listing v m = lists m v

-- a message is an acknowledgement
abbrev pub acknowledging : Message → Bool
acknowledging m = is_ack (body_of m).kind

-- how many of n processors there are of which something is true
abbrev pub number_of : ℕ → (ℕ → Bool) → ℕ
number_of n is = count_by is (range_with_len 1 n)

-- what a node says, with its PROPER
abbrev pub with_proper : State → Kind → Body
with_proper s kind = record { kind = kind; proper = s.proper }

-- who sends what to whom, and in which part of a phase: lists and acknowledgements go to the owner, who alone
-- sends Lock messages
abbrev pub IsAddressed : ℕ → ℕ → ℕ → ℕ → Kind → Type 0
IsAddressed part owner me to (Listed values) = (part ≡ 1) × (to ≡ owner)
IsAddressed part owner me to (Lock v) = (part ≡ 2) × (me ≡ owner)
IsAddressed part owner me to Ack = (part ≡ 3) × (to ≡ owner)
IsAddressed part owner me to (Locks pairs) = part ≡ 4

-- what a kind says about the node that sends it
abbrev pub Says : State → Kind → Type 0
Says s (Listed values) = values ≡ values_to_list s
Says s (Lock v) = s.proposal ≡ Some v
Says s Ack = s.owes_ack ≡ true
Says s (Locks pairs) = pairs ≡ s.locks

-- a body says what is so of the node that sends it, and has its PROPER
pub record IsSaidBy (s : State) (body : Body) : Type 0 where
  pub says : Says s body.kind
  pub proper : body.proper ≡ s.proper
