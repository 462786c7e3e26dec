-- Sets of processors, as bit masks (own: bit p - 1 denotes processor p).
use Rattle.std.specs.Prelude.{ℕ, ◌-◌, ◌≤◌, Bool, IsTrue, ◌==◌, ◌&&◌, nat_lt, nat_le}
use Rattle.std.specs.Int.{bit_at}
use Rattle.step_trace.specs.declared.processors.TheConstants.{MAX_MEMBER}

-- whether the set of this bit mask has processor p; its members are numbered from 1 to MAX_MEMBER
abbrev pub has_proc : ℕ → ℕ → Bool
has_proc mask p = nat_lt 0 p && nat_le p MAX_MEMBER && bit_at mask (p - 1) == 1

-- no member of the set is above n
abbrev pub IsWithin : ℕ → ℕ → Type 0
IsWithin mask n = (p : ℕ) → IsTrue (has_proc mask p) → p ≤ n
