-- Elements by their numbers, which count from 1.
use Rattle.std.proofs.Common.{ℕ, zero, suc, ◌≡◌, ◌-◌, ◌≤◌, ◌<◌, List, length, get_or, All, ◌⊎◌, inl, inr, refl, arith, sym, subst}
use Rattle.std.proofs.lemmas.Bool.{cases_lt}
use Rattle.std.proofs.lemmas.List.{get_or_past}
use Rattle.round_model.specs.HeardSets.{numbered}

-- a number denotes the index below it
pub numbered-at : {X : Type 0} (d : X) (xs : List X) (k : ℕ) → 1 ≤ k → numbered d xs k ≡ get_or xs (k - 1) d
numbered-at d xs zero h = absurd (omega arith)
numbered-at d xs (suc k) h = let e : suc k - 1 ≡ k = omega arith in rw e refl

-- what holds of each element, and of the default, holds of the element with any number
pub numbered-all : {X : Type 0} (P : X → Type 0) (d : X) (xs : List X) (k : ℕ) → P d → All P xs → P (numbered d xs k)
numbered-all P d xs zero here all = here
numbered-all P d xs (suc k) here all = go (cases_lt k (length xs))
  where
    go : (k < length xs) ⊎ (length xs ≤ k) → P (get_or xs k d)
    go (inl h) = all k d h
    go (inr h) = subst P (sym (get_or_past xs k d h)) here
