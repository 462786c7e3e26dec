-- What contracts see of the ids that wait for a processor.
use Rattle.std.specs.Prelude.{ℕ, List}

-- the ids; how many places before them are no longer used; and how many more ids there is room for
pub record Queue : Type 0 where
  pub items : List ℕ
  pub gone : ℕ
  pub room : ℕ
