-- So many times a formula.
use Rattle.std.proofs.Common.{ℕ, ◌≡◌, ◌*◌, ◌≤◌, List, [], ◌∷◌, ◌++◌, min, arith}
use Rattle.std.proofs.Math.Nat.{mul_comm}
use Rattle.decision_claims.specs.declared.formulas.Part.{Part}
use Rattle.decision_claims.specs.Formulas.{IsTimes, nothing, times_all, value_from}
use Rattle.decision_claims.proofs.AlikeValues.{min_times}

-- a further factor is one of the product of all of them
times_all-push : (factors : List ℕ) (c v : ℕ) → times_all (factors ++ c ∷ []) v ≡ c * times_all factors v
times_all-push [] c v = mul_comm v c
times_all-push (d ∷ factors) c v = times_all-push factors c (v * d)

-- what is the same up to a cap stays so in a product
pub min_times_all : (factors : List ℕ) (v w cap : ℕ) → min v cap ≡ min w cap → min (times_all factors v) cap ≡ min (times_all factors w) cap
min_times_all [] v w cap e = e
min_times_all (c ∷ factors) v w cap e = min_times_all factors (v * c) (w * c) cap (min_times v w c cap e)

-- one factor more
pub product_next : (factors : List ℕ) (v c most cap : ℕ)
    → cap ≤ most → min (times_all factors (min (min (v * c) most) cap)) cap ≡ min (times_all (c ∷ factors) v) cap
product_next factors v c most cap l = min_times_all factors (min (min (v * c) most) cap) (v * c) cap (omega (arith, l))

pub is_times : (c : ℕ) (factors : List ℕ) (parts : List Part)
    → IsTimes c (record { factors = factors; parts = parts }) (record { factors = factors ++ c ∷ []; parts = parts })
is_times c factors parts =
    record { each = λ words. times_all-push factors c (value_from words (record { here = nothing; around = [] }) parts) }
