-- The steps of a tick of a trace (own).
use Rattle.std.specs.Prelude.{ℕ, ◌≡◌}
use Rattle.step_trace.specs.Traces.{Recorded, IsStepOf}
use Rattle.step_trace.specs.Ticks.{tick_of}

-- step k is one of p, in tick x
pub record IsStepIn (trace : Recorded) (p x k : ℕ) : Type 0 where
  pub step : IsStepOf trace.steps k p
  pub tick : tick_of trace k ≡ x
