-- Lists of stretches of rows: each goes from one place to a later one or the same (own).
use Rattle.std.specs.Prelude.{ℕ, ◌<◌, ◌≤◌, List, Contains, AllPairs}

-- These are all stretches of a kind that end before place n, in order. Each place before n at which there is something
-- is in one, and no two share a place.
pub record AreStretches (X : Type 0) (first last : X → ℕ) (IsOne : X → Type 0) (HasSome : ℕ → Type 0) (n : ℕ)
    (xs : List X) : Type 0 where
  pub right : (x : X) → Contains xs x → IsOne x
  pub inside : (x : X) → Contains xs x → last x < n
  pub complete : (k : ℕ) → k < n → HasSome k → (x : X) × Contains xs x × (first x ≤ k) × (k ≤ last x)
  pub ordered : AllPairs (λ x y. last x < first y) xs
