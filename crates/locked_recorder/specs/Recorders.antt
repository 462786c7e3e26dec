-- What contracts see of a recorder. What lies under its lock is never seen.
use Rattle.std.specs.Prelude.{ℕ}
use Rattle.step_trace.specs.Configurations.{Setup}

-- the tag of its seats, the configuration of its World, and how many steps may be made in that
pub record Identity : Type 0 where
  pub tag : ℕ
  pub config : Setup
  pub limit : ℕ
