-- Single steps in a window of ticks.
use Rattle.std.specs.Prelude.{ℕ, ◌<◌, ◌≤◌}
use Rattle.step_trace.specs.Traces.{Recorded, IsReceiveOf, IsStepOf}
use Rattle.step_trace.specs.Ticks.{tick_of}

-- step k is one of processor p, in a tick from x on and before y
pub record IsStepBetween (trace : Recorded) (k p x y : ℕ) : Type 0 where
  pub step : IsStepOf trace.steps k p
  pub from : x ≤ tick_of trace k
  pub before : tick_of trace k < y

-- step k is a Receive of processor p, in a tick from x on and before y
pub record IsReceiveBetween (trace : Recorded) (k p x y : ℕ) : Type 0 where
  pub receive : IsReceiveOf trace.steps k p
  pub from : x ≤ tick_of trace k
  pub before : tick_of trace k < y

-- there is no such Receive
pub record NoReceiveBetween (trace : Recorded) (p x y : ℕ) : Type 0 where
  pub none : (k : ℕ) → ¬ IsReceiveBetween trace k p x y

-- step r is the last one
pub record IsLastReceiveBetween (trace : Recorded) (p x y r : ℕ) : Type 0 where
  pub receive : IsReceiveBetween trace r p x y
  pub last : (k : ℕ) → IsReceiveBetween trace k p x y → k ≤ r
