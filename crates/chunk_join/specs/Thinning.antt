-- Lists without the elements that a later one makes needless (own). An element is pending while a part that follows may
-- still change it; one that is settled has a weight.
use Rattle.std.specs.Prelude.{ℕ, ◌≡◌, ◌<◌, ◌⊎◌, List, [], ◌∷◌, Bool, true, false, ◌||◌, nat_lt, max, if◌then◌else◌}

-- the weight that counts: none while pending
abbrev pub weight_of : {X : Type 0} → (X → Bool) → (X → ℕ) → X → ℕ
weight_of pending weight x = if pending x then 0 else weight x

-- the greatest weight of the settled elements
abbrev pub heaviest : {X : Type 0} → (X → Bool) → (X → ℕ) → List X → ℕ
heaviest pending weight [] = 0
heaviest pending weight (x ∷ xs) = max (weight_of pending weight x) (heaviest pending weight xs)

-- whether an element stays, if the later ones have no weight above this
abbrev pub stays : {X : Type 0} → (X → Bool) → (X → ℕ) → ℕ → X → Bool
stays pending weight top x = pending x || nat_lt top (weight x)

-- what is pending, and what is heavier than all that come later
abbrev pub thinned : {X : Type 0} → (X → Bool) → (X → ℕ) → List X → List X
thinned pending weight [] = []
thinned pending weight (x ∷ xs) =
    if stays pending weight (heaviest pending weight xs) x then x
    ∷ thinned pending weight xs else thinned pending weight xs

-- what is left after an element is looked at, with what is kept of the later ones
abbrev pub kept_with : {X : Type 0} → (X → Bool) → (X → ℕ) → ℕ → X → List X → List X
kept_with pending weight top x rest = if stays pending weight top x then x ∷ rest else rest

-- An element is undominated: it is meant, and is pending, or heavier than nothing and than each settled one that is
-- meant and comes later.
pub record IsUndominated {X : Type 0} (Before : X → X → Type 0) (pending : X → Bool) (weight : X → ℕ) (Is : X → Type 0)
    (x : X) : Type 0 where
  pub meant : Is x
  pub heavy : (pending x ≡ true)
      ⊎ ((0 < weight x) × ((y : X) → Is y → Before x y → pending y ≡ false → weight y < weight x))
