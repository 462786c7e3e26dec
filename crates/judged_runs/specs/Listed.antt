-- The runs of a list, and what its records give so far (own).
use Rattle.std.specs.Prelude.{ℕ, List, Option}

-- A run to judge: the paths of its trace and of its decisions (those of the replay if there is no path); the list of
-- the correct processors; and the tick in which it started.
pub record Listed : Type 0 where
  pub trace : List ℕ
  pub decisions : List ℕ
  pub correct : List ℕ
  pub start : List ℕ

-- the runs that were read; None before the header
pub record SoFar : Type 0 where
  pub runs : Option (List Listed)
