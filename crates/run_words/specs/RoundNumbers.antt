-- Round numbers of axes (own).
use Rattle.std.specs.Prelude.{ℕ, List, [], ◌∷◌, ◌/◌, nat_le, if◌then◌else◌}

-- 1, 2 and 5 times the powers of ten, up to 1,000,000
abbrev pub round_numbers : List ℕ
round_numbers = 1 ∷ 2 ∷ 5 ∷ 10 ∷ 20 ∷ 50 ∷ 100 ∷ 200 ∷ 500 ∷ 1000 ∷ 2000 ∷ 5000 ∷ 10000 ∷ 20000 ∷ 50000 ∷ 100000
    ∷ 200000 ∷ 500000 ∷ 1000000 ∷ []

-- the first of these numbers that goes at most so often into the limit; 1,000,000 if none does
abbrev pub first_step : List ℕ → ℕ → ℕ → ℕ
first_step [] limit most = 1000000
first_step (step ∷ rest) limit most = if nat_le (limit / step) most then step else first_step rest limit most

-- the first of the round numbers that does
unfoldable pub round_step : ℕ → ℕ → ℕ
round_step limit most = first_step round_numbers limit most
