-- Ticks by which a run may go on without breaking a bound (own).
use Rattle.std.specs.Prelude.{ℕ, ◌<◌, ◌≤◌, IsTrue}
use Rattle.step_trace.specs.Processors.{has_proc}
use Rattle.step_trace.specs.Traces.{Recorded, IsReceiveOf}
use Rattle.step_trace.specs.Ticks.{tick_of, StepsIn}
use Rattle.step_trace.specs.Bounds.{IsMessage, IsDelivered}

-- Each tick after tick x is calm: each member takes a step in it. Each of its Receives there leaves no message of a
-- member that was sent before.
pub record IsCalmAfter (set : ℕ) (trace : Recorded) (x : ℕ) : Type 0 where
  pub steps : (y : ℕ) → x < y → y ≤ trace.last → (p : ℕ) → IsTrue (has_proc set p) → StepsIn trace y p
  pub takes : (s r b : ℕ) → IsMessage set trace.steps s b → IsReceiveOf trace.steps r b → x < tick_of trace r
      → tick_of trace s < tick_of trace r → IsDelivered trace s (tick_of trace r)
