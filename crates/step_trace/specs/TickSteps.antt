-- The steps of a tick of a trace, which follow one another by number (own).
use Rattle.std.specs.Prelude.{ℕ, ◌<◌, ◌≤◌, length}
use Rattle.step_trace.specs.Traces.{Recorded}
use Rattle.step_trace.specs.Ticks.{tick_of}

-- the first n steps are those of the ticks before x
pub record AreStepsBefore (trace : Recorded) (x n : ℕ) : Type 0 where
  pub within : n ≤ length trace.steps
  pub before : (k : ℕ) → 1 ≤ k → k ≤ n → tick_of trace k < x
  pub rest : (k : ℕ) → n < k → k ≤ length trace.steps → x ≤ tick_of trace k
