-- A level that is repeated.
use Rattle.std.proofs.Common.{ℕ, ◌+◌, ◌≤◌, List, [], ◌∷◌, ◌++◌, length, replicate, suc, zero, arith, length-append}
use Rattle.std.proofs.lemmas.List.{length-replicate}
use Rattle.suffix_staircase.proofs.Common.{Level, IsStaircase, repeated}
use Rattle.suffix_staircase.proofs.LevelBounds.{StandsBefore-itself}

-- levels fall, and are as many more
pub record IsLonger (levels : List Level) (count : ℕ) (more : List Level) : Type 0 where
  pub falling : IsStaircase more
  pub long : length more ≤ length levels + count

falls : (count : ℕ) (level : Level) (rest : List Level) → IsStaircase (level ∷ rest) → IsStaircase (replicate count level ++ level ∷ rest)
falls zero level rest h = h
falls (suc zero) level rest h = (StandsBefore-itself level, h)
falls (suc (suc n)) level rest h = (StandsBefore-itself level, falls (suc n) level rest h)

pub IsLonger-repeated : (count : ℕ) (levels : List Level) → IsStaircase levels → IsLonger levels count (repeated count levels)
IsLonger-repeated count [] h = record { falling = h; long = omega arith }
IsLonger-repeated count (level ∷ rest) h = record {
  falling = falls count level rest h;
  long = simp (length-append, length-replicate) (omega arith);
}
