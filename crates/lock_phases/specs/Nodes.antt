-- Nodes (section 3: what a processor keeps from round to round).
use Rattle.std.specs.Prelude.{ℕ, ◌<◌, ◌⊎◌, List, [], ◌∷◌, length, Option, None, Bool, false, map}
use Rattle.std.specs.List.Sorted.{IsStrictlyIncreasing}

-- a lock: a value with the phase in which it was locked
abbrev pub LockPair : Type 0
LockPair = ℕ × ℕ

abbrev pub value_of : LockPair → ℕ
value_of lock = lock.0

abbrev pub phase_of_lock : LockPair → ℕ
phase_of_lock lock = lock.1

-- The plain state of a node: its PROPER values, rising; its locks, rising by value; its proposal; whether
-- it owes an acknowledgement; and its decision.
pub record State : Type 0 where
  pub proper : List ℕ
  pub locks : List LockPair
  pub proposal : Option ℕ
  pub owes_ack : Bool
  pub decision : Option ℕ

-- the opening node of a processor with this initial value
abbrev pub opening : ℕ → State
opening value = record { proper = value ∷ []; locks = []; proposal = None; owes_ack = false; decision = None }

-- the second node has more PROPER values or more locks than the first
abbrev pub Grows : State → State → Type 0
Grows s next = (length s.proper < length next.proper) ⊎ (length s.locks < length next.locks)

-- PROPER and the locks rise by value
pub record IsRising (s : State) : Type 0 where
  pub proper : IsStrictlyIncreasing s.proper
  pub locks : IsStrictlyIncreasing (map value_of s.locks)
