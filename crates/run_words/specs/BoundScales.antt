-- How high bounds are drawn (own).
use Rattle.std.specs.Prelude.{ℕ, ◌+◌, ◌-◌, ◌*◌, ◌/◌, ◌^◌, Bool, Option, Some, None}
use Rattle.std.specs.Prelude.{nat_le, nat_lt, min, max, if◌then◌else◌, suc, zero}
use Rattle.step_trace.specs.declared.traces.TheConstants.{MAX_TICKS}
use Rattle.run_words.specs.declared.bound_scales.BoundScale.{BoundScale}
use Rattle.run_words.specs.RoundNumbers.{round_step}
use Rattle.run_words.specs.declared.bound_scales.TheConstants.{MOST_LINEAR, MOST_LOGGED, MOST_EXPONENT}

-- the logarithm of a number below 2 ^ k to base 2, in thousandths, straight between powers of two; 0 for 0
abbrev pub log_below : ℕ → ℕ → ℕ
log_below zero n = 0
log_below (suc k) n = if nat_le (2 ^ k) n then k * 1000 + (n - 2 ^ k) * 1000 / 2 ^ k else log_below k n

-- the same of any number: those above MOST_LOGGED count as that
abbrev pub log_of : ℕ → ℕ
log_of n = log_below (MOST_EXPONENT + 1) (min n MOST_LOGGED)

-- whether bounds are drawn by their logarithms
abbrev pub is_log : BoundScale → Bool
is_log s = nat_lt MOST_LINEAR s.most

-- what the height of a bound is in proportion to
abbrev pub measure : BoundScale → ℕ → ℕ
measure s bound = if is_log s then log_of bound else bound

-- what the height of the greatest bound is in proportion to
abbrev pub full : BoundScale → ℕ
full s = min (max (measure s s.most) 1) (MAX_TICKS + 1)

-- how high a bound is drawn, of so much for the greatest
abbrev pub rise : BoundScale → ℕ → ℕ → ℕ
rise s bound whole = min (measure s bound) (full s) * whole / full s

-- the power of ten of this exponent, up to 1,000,000
abbrev pub power_of_ten : ℕ → Option ℕ
power_of_ten exponent = if nat_lt exponent 7 then Some (10 ^ exponent) else None

-- the bound, if it is at most this
abbrev pub at_most : ℕ → Option ℕ → Option ℕ
at_most most None = None
at_most most (Some bound) = if nat_le bound most then Some bound else None

-- the bound at the line of this number, if the scale reaches it: a power of ten, or else a multiple
-- of the first round number that goes at most so often into the greatest bound
abbrev pub line : BoundScale → ℕ → ℕ → Option ℕ
line s number lines = at_most s.most (if is_log s then power_of_ten number else Some (round_step s.most lines * number))
