-- What becomes of locks (section 3).
use Rattle.std.specs.Prelude.{ℕ, List, [], ◌∷◌, Option, None, Bool, nat_lt, nat_le}
use Rattle.std.specs.Prelude.{not, ◌==◌, ◌&&◌, if◌then◌else◌, filter}
use Rattle.std.specs.List.{list_any, list_all}
use Rattle.lock_phases.specs.Nodes.{LockPair, value_of, phase_of_lock}
use Rattle.lock_phases.specs.Messages.{Message, sender_of, body_of, locked_value, told_locks}

-- v is acceptable to a node with no lock on any value except possibly v
abbrev pub is_acceptable : List LockPair → ℕ → Bool
is_acceptable locks v = list_all (λ lock. value_of lock == v) locks

-- the value that the owner's Lock asks to lock, if it is heard
abbrev pub heard_lock : ℕ → List Message → Option ℕ
heard_lock owner [] = None
heard_lock owner (m ∷ rest) = if sender_of m == owner then locked_value (body_of m).kind else heard_lock owner rest

-- the locks with v locked at this phase: its old lock is replaced, and other locks stay
abbrev pub put_lock : ℕ → ℕ → List LockPair → List LockPair
put_lock v phase [] = (v, phase) ∷ []
put_lock v phase (lock ∷ rest) =
    if nat_lt v (value_of lock) then (v, phase) ∷ lock ∷ rest
    else if v == value_of lock then (v, phase) ∷ rest
    else lock ∷ put_lock v phase rest

-- the release rule: a heard lock (w, h') releases (v, h) if w isn't v and h' is at least h
abbrev pub releases : LockPair → LockPair → Bool
releases told lock = not (value_of told == value_of lock) && nat_le (phase_of_lock lock) (phase_of_lock told)

-- whether some lock that is heard releases this one
abbrev pub is_released : List Message → LockPair → Bool
is_released heard lock = list_any (λ m. list_any (λ told. releases told lock) (told_locks (body_of m).kind)) heard

-- the locks that stay, each judged before any is released
abbrev pub kept_locks : List Message → List LockPair → List LockPair
kept_locks heard locks = filter (λ lock. not (is_released heard lock)) locks
