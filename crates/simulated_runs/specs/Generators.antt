-- The generator splitmix64 (Steele, Lea and Flood, 2014): a state of 64 bits, which each draw raises by a constant and
-- mixes.
use Rattle.std.specs.Prelude.{ℕ, ◌+◌, ◌*◌, ◌/◌, ◌%◌, ◌^◌, bit_xor}

-- the state after a draw
abbrev pub next_state : ℕ → ℕ
next_state state = (state + 0x9e3779b97f4a7c15) % 2 ^ 64

-- a number with its high bits folded down by k places, times m
abbrev pub folded : ℕ → ℕ → ℕ → ℕ
folded z k m = bit_xor z (z / 2 ^ k) * m % 2 ^ 64

-- the number that a state gives, mixed twice
abbrev pub mixed_twice : ℕ → ℕ
mixed_twice state = folded (folded state 30 0xbf58476d1ce4e5b9) 27 0x94d049bb133111eb

abbrev pub mixed : ℕ → ℕ
mixed state = bit_xor (mixed_twice state) (mixed_twice state / 2 ^ 31)

-- what is drawn in a state
abbrev pub drawn : ℕ → ℕ
drawn state = mixed (next_state state)
