-- From round to round, and the node functions by the part of the round.
use Rattle.std.proofs.Common.{ℕ, ◌≡◌, ◌≤◌, ◌⊎◌, inl, inr, zero, suc, List, ap, arith}
use Rattle.std.specs.Prelude.{option_map}
use Rattle.lock_phases.proofs.Common.{Setup, phase_of, part_of, owner, Part, Listing, Locking, Acknowledging, Releasing, part_at, State, Message, take_in}
use Rattle.lock_phases.specs.NodeFunctions.{kind_sent, out, next_in, next}

-- the parts count from 1
pub part_of-low : (round : ℕ) → 1 ≤ part_of round
part_of-low round = omega arith

-- there are four
pub part_of-high : (round : ℕ) → part_of round ≤ 4
part_of-high round = omega arith

-- each round is one of the four
pub part_of-cases : (round : ℕ) → (part_of round ≡ 1) ⊎ ((part_of round ≡ 2) ⊎ ((part_of round ≡ 3) ⊎ (part_of round ≡ 4)))
part_of-cases round = go (part_of round) (part_of-low round) (part_of-high round)
  where
    go : (p : ℕ) → 1 ≤ p → p ≤ 4 → (p ≡ 1) ⊎ ((p ≡ 2) ⊎ ((p ≡ 3) ⊎ (p ≡ 4)))
    go zero l h = absurd (omega arith)
    go (suc zero) l h = inl (omega arith)
    go (suc (suc zero)) l h = inr (inl (omega arith))
    go (suc (suc (suc zero))) l h = inr (inr (inl (omega arith)))
    go (suc (suc (suc (suc p)))) l h = inr (inr (inr (omega arith)))

-- the first part is the listing round
pub part_at-listing : (round : ℕ) → part_of round ≡ 1 → part_at (part_of round) ≡ Listing
part_at-listing round e = ap part_at e

-- the second the locking round
pub part_at-locking : (round : ℕ) → part_of round ≡ 2 → part_at (part_of round) ≡ Locking
part_at-locking round e = ap part_at e

-- the third the acknowledging round
pub part_at-acknowledging : (round : ℕ) → part_of round ≡ 3 → part_at (part_of round) ≡ Acknowledging
part_at-acknowledging round e = ap part_at e

-- the fourth the lock-release round
pub part_at-releasing : (round : ℕ) → part_of round ≡ 4 → part_at (part_of round) ≡ Releasing
part_at-releasing round e = ap part_at e

-- a node that has taken in each PROPER that it heard
abbrev pub with_proper_heard : State → List Message → State
with_proper_heard s heard = record s { proper = take_in s.proper heard }

-- the state after a round of this part
pub next-in : (part : Part) (c : Setup) (s : State) (me round : ℕ) (heard : List Message) → part_at (part_of round) ≡ part
    → next c s me round heard ≡ next_in part c (with_proper_heard s heard) me (phase_of round) heard
unfolding next
next-in part c s me round heard e = ap (λ p. next_in p c (with_proper_heard s heard) me (phase_of round) heard) e

-- what is sent in a round of this part
pub out-in : (part : Part) (c : Setup) (s : State) (me round to : ℕ) → part_at (part_of round) ≡ part → out c s me round to
    ≡ option_map (λ kind. record { kind = kind; proper = s.proper }) (kind_sent part s (owner c.n (phase_of round)) me to)
unfolding out
out-in part c s me round to e =
    ap (λ p. option_map (λ kind. record { kind = kind; proper = s.proper }) (kind_sent p s (owner c.n (phase_of round)) me to)) e
