-- Needs of 64 clocks in a list, row after row (own).
use Rattle.std.specs.Prelude.{ℕ, ◌≡◌, ◌+◌, ◌*◌, ◌/◌, ◌%◌, ◌<◌, List, length, Option, None, pos, slice_index_or}
use Rattle.std.proofs.Common.{ℤ}
use Rattle.clock_offsets.specs.ClockOffsets.{Needs, AreLeastOffsets, IsCycleAt, best_of, greater, plus}
use Rattle.clock_offsets.specs.declared.refusals.OffsetError.{OffsetError}
use Rattle.clock_offsets.specs.declared.refusals.OffsetError.TheVariants.{Cycle, TooFar, Memory}

-- the need that the second clock has of the first
abbrev pub needs_at : List (Option ℤ) → Needs
needs_at xs i j = slice_index_or xs (i * 64 + j) None

abbrev pub next_at : List (Option ℤ) → ℕ → ℕ → Option ℤ
next_at xs k x = greater (slice_index_or xs x None)
    (plus (slice_index_or xs (x / 64 * 64 + k) None) (slice_index_or xs (k * 64 + x % 64) None))

-- the list has the needs by way of one clock more
pub record AreNext (old : List (Option ℤ)) (k : ℕ) (new : List (Option ℤ)) : Type 0 where
  pub long : length new ≡ 4096
  pub each : (x : ℕ) → x < 4096 → slice_index_or new x None ≡ next_at old k x

-- the list has of each clock the greatest need that any has of it, no less than 0
pub record AreGreatest (n : ℕ) (needs : List (Option ℤ)) (offsets : List ℤ) : Type 0 where
  pub long : length offsets ≡ n
  pub each : (j : ℕ) → j < n → slice_index_or offsets j (pos 0) ≡ best_of (λ i. needs_at needs i j) n

-- the list has the least offsets
pub record AreOffsetsOf (n : ℕ) (needs : List (Option ℤ)) (offsets : List ℤ) : Type 0 where
  pub long : length offsets ≡ n
  pub least : AreLeastOffsets n (needs_at needs) (λ j. slice_index_or offsets j (pos 0))

-- the answer is a clock that would have to be ahead of itself, or that numbers or memory don't suffice
abbrev pub IsOffsetRefusal : ℕ → List (Option ℤ) → OffsetError → Type 0
IsOffsetRefusal n needs (Cycle clock) = (clock < n) × IsCycleAt (needs_at needs) clock
IsOffsetRefusal n needs TooFar = Unit {0}
IsOffsetRefusal n needs Memory = Unit {0}

-- numbers or memory don't suffice
abbrev pub IsWant : OffsetError → Type 0
IsWant (Cycle clock) = ⊥
IsWant TooFar = Unit {0}
IsWant Memory = Unit {0}
