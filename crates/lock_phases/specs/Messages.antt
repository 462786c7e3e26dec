-- Messages (section 3: what a body says, besides the PROPER set that is attached to each).
use Rattle.std.specs.Prelude.{ℕ, List, [], Option, Some, None, Bool, true, false}
use Rattle.lock_phases.specs.declared.bodies.Kind.{Kind}
use Rattle.lock_phases.specs.declared.bodies.Kind.TheVariants.{List as Listed, Lock, Ack, Locks}
use Rattle.lock_phases.specs.declared.bodies.Body.{Body}
use Rattle.lock_phases.specs.Nodes.{LockPair}

-- a message when it is heard: its sender with its body
abbrev pub Message : Type 0
Message = ℕ × Body

abbrev pub sender_of : Message → ℕ
sender_of m = m.0

abbrev pub body_of : Message → Body
body_of m = m.1

-- the values that a List has
abbrev pub listed_values : Kind → List ℕ
listed_values (Listed values) = values
listed_values (Lock value) = []
listed_values Ack = []
listed_values (Locks pairs) = []

-- the value that a Lock asks to lock
abbrev pub locked_value : Kind → Option ℕ
locked_value (Listed values) = None
locked_value (Lock value) = Some value
locked_value Ack = None
locked_value (Locks pairs) = None

-- whether it is an acknowledgement
abbrev pub is_ack : Kind → Bool
is_ack (Listed values) = false
is_ack (Lock value) = false
is_ack Ack = true
is_ack (Locks pairs) = false

-- the locks in a message of a lock-release round
abbrev pub told_locks : Kind → List LockPair
told_locks (Listed values) = []
told_locks (Lock value) = []
told_locks Ack = []
told_locks (Locks pairs) = pairs
