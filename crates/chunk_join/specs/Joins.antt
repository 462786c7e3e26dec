-- Parts of a whole between two cuts, and what joining them keeps (own). Cut i is right after the first i places of
-- the whole. The part from i to j has those after i up to j, and the part from j on comes right after it.
use Rattle.std.specs.Prelude.{ℕ, ◌≡◌, ◌⊎◌, List, [], ◌∷◌, Option, Some, None}
use Rattle.chunk_join.specs.declared.joins.Why.{Why}
use Rattle.chunk_join.specs.declared.joins.Why.TheVariants.{NotAdjacent, OtherSet, Memory}

-- What joining keeps. `refusal` is the first reason against joining two values.
pub record JoinedLaws {M W : Type 0} (IsPart : W → ℕ → ℕ → M → Type 0) (empty : M) (refusal : M → M → Option Why)
    (joined : M → M → M) : Type 0 where
  -- the empty value changes nothing
  pub left_unit : (x : M) → joined empty x ≡ x
  pub right_unit : (x : M) → joined x empty ≡ x
  pub left_fits : (x : M) → refusal empty x ≡ None
  pub right_fits : (x : M) → refusal x empty ≡ None
  -- between equal cuts a part is the empty value
  pub empty_part : (whole : W) (i : ℕ) (x : M) → IsPart whole i i x → x ≡ empty
  -- a part is one value
  pub one : (whole : W) (i j : ℕ) (x y : M) → IsPart whole i j x → IsPart whole i j y → x ≡ y
  -- parts that follow one another join, and give the part that they make up together
  pub fit : (whole : W) (i j k : ℕ) (x y : M) → IsPart whole i j x → IsPart whole j k y → refusal x y ≡ None
  pub part : (whole : W) (i j k : ℕ) (x y : M) → IsPart whole i j x → IsPart whole j k y → IsPart whole i k (joined x y)

-- the values are the parts of a whole from cut i to cut k, each beginning where the one before ends
abbrev pub AreParts : {M W : Type 0} → (W → ℕ → ℕ → M → Type 0) → M → W → ℕ → List M → ℕ → Type 0
AreParts IsPart empty whole i [] k = IsPart whole i k empty
AreParts IsPart empty whole i (x ∷ xs) k = (j : ℕ) × IsPart whole i j x × AreParts IsPart empty whole j xs k

-- these values joined, in their order, to what was joined so far
abbrev pub join_after : {M : Type 0} → (M → M → M) → M → List M → M
join_after joined all [] = all
join_after joined all (x ∷ xs) = join_after joined (joined all x) xs

-- no reason holds against joining them so
abbrev pub FitAfter : {M : Type 0} → (M → M → Option Why) → (M → M → M) → M → List M → Type 0
FitAfter refusal joined all [] = Unit {0}
FitAfter refusal joined all (x ∷ xs) = (refusal all x ≡ None) × FitAfter refusal joined (joined all x) xs

-- an answer gives the first reason, or is out of memory if there is none
abbrev pub IsRefusal : Why → Option Why → Type 0
IsRefusal Memory first = first ≡ None
IsRefusal NotAdjacent first = first ≡ Some NotAdjacent
IsRefusal OtherSet first = first ≡ Some OtherSet

-- the answer is a refusal to join one of them to those before it, which fit
abbrev pub RefusesAfter : {M : Type 0} → (M → M → Option Why) → (M → M → M) → Why → M → List M → Type 0
RefusesAfter refusal joined why all [] = ⊥
RefusesAfter refusal joined why all (x ∷ xs) = IsRefusal why (refusal all x)
    ⊎ ((refusal all x ≡ None) × RefusesAfter refusal joined why (joined all x) xs)
