-- Pieces of a list.
use Rattle.std.specs.Prelude.{ℕ, ◌-◌, List, [], ◌∷◌, take, drop}

-- the pieces of a list that end at these places: the first begins at a place, each other where the one before it ends
abbrev pub pieces : ℕ → List ℕ → List ℕ → List (List ℕ)
pieces from [] xs = []
pieces from (end ∷ ends) xs = take (end - from) (drop from xs) ∷ pieces end ends xs
