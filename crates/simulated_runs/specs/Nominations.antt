-- Who is named for the next step.
use Rattle.std.specs.Prelude.{ℕ, ◌<◌, ◌≤◌}
use Rattle.simulated_runs.specs.declared.nominations.Nominator.{Nominator}

-- it names some of n processors: in a burst, one of them was named
pub record IsNominating (n : ℕ) (x : Nominator) : Type 0 where
  pub high : x.named ≤ n
  pub low : 0 < x.left → 1 ≤ x.named
