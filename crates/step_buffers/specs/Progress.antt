-- What contracts see of a World.
use Rattle.std.specs.Prelude.{ℕ}
use Rattle.step_trace.specs.Traces.{Recorded}

-- its trace, and how many steps may be made
pub record Progress : Type 0 where
  pub trace : Recorded
  pub limit : ℕ
