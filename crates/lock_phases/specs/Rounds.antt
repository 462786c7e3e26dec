-- Rounds (section 3): phase k is the trying rounds 4k-3, 4k-2, 4k-1 and the lock-release round 4k. It
-- belongs to processor i if k is congruent to i modulo N.
use Rattle.std.specs.Prelude.{ℕ, ◌+◌, ◌-◌, ◌/◌, ◌%◌, ◌==◌, if◌then◌else◌}

-- the phase of a round; both count from 1
abbrev pub phase_of : ℕ → ℕ
phase_of round = (round - 1) / 4 + 1

-- which of the four rounds of its phase a round is, from 1 on
abbrev pub part_of : ℕ → ℕ
part_of round = (round - 1) % 4 + 1

-- the processor, of n, to which a phase belongs
abbrev pub owner : ℕ → ℕ → ℕ
owner n phase = (phase - 1) % n + 1

-- The four rounds of a phase. Lists go to the owner; the owner's lock goes to everybody;
-- acknowledgements go to the owner; everybody's locks go to everybody.
pub data Part : Type 0 where
  Listing : Part
  Locking : Part
  Acknowledging : Part
  Releasing : Part

-- the part of a phase at this place in it, from 1 on
abbrev pub part_at : ℕ → Part
part_at place =
    if place == 1 then Listing
    else if place == 2 then Locking
    else if place == 3 then Acknowledging
    else Releasing
