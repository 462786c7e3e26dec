-- Evidence of one kind, each piece of which has a start and an end in ticks. Their distance is its
-- length. A bound that holds allows no piece as long as itself. Of several pieces of one length the
-- one at the greatest place is named.
use Rattle.std.specs.Prelude.{ℕ, ◌≡◌, ◌+◌, ◌<◌, ◌≤◌, Option, Some, None, nat_le, if◌then◌else◌}
use Rattle.link_bounds.specs.declared.bounds.LeastBound.{LeastBound}

-- of the pieces that count and are one tick shorter than d, the one at the greatest place
pub record IsLatest (E : Type 0) (Counts : E → Type 0) (place start end : E → ℕ) (d : ℕ) (e : E) : Type 0 where
  pub counts : Counts e
  pub long : start e + d ≡ end e + 1
  pub latest : (o : E) → Counts o → start o + d ≡ end o + 1 → place o ≤ place e

-- the witness of a bound: none at 1
abbrev pub NamesLatest : (E : Type 0) → (E → Type 0) → (E → ℕ) → (E → ℕ) → (E → ℕ) → ℕ → Option E → Type 0
NamesLatest E Counts place start end d None = d ≡ 1
NamesLatest E Counts place start end d (Some e) = (1 < d) × IsLatest E Counts place start end d e

-- each piece that counts is shorter than the bound, and this is its witness
pub record AllowsAll (E : Type 0) (Counts : E → Type 0) (place start end : E → ℕ) (bound : LeastBound E) : Type 0 where
  pub shorter : (e : E) → Counts e → end e < start e + bound.least
  pub named : NamesLatest E Counts place start end bound.least bound.witness

-- the bound if there is no evidence
abbrev pub without_evidence : {E : Type 0} → LeastBound E
without_evidence = record { least = 1; witness = None }

-- the bound, with a piece of this length if it allows none so long
abbrev pub noted : {E : Type 0} → LeastBound E → E → ℕ → LeastBound E
noted bound e long = if nat_le bound.least long then record { least = long + 1; witness = Some e } else bound
