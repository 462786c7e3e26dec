-- The decisions that a replay finds, with their ticks.
use Rattle.std.specs.Prelude.{ℕ, ◌≡◌, ◌&&◌, List, length, map, nat_le, if◌then◌else◌}
use Rattle.step_trace.specs.Traces.{Recorded}
use Rattle.step_trace.specs.Ticks.{tick_of}
use Rattle.step_buffers.specs.Runs.{IsRun}
use Rattle.deciding_runs.specs.declared.decisions.Decision.{Decision as RunDecision}
use Rattle.deciding_runs.specs.Decisions.{decisions}
use Rattle.decision_claims.specs.declared.decisions.Decision.{Decision}

-- the tick of the step of this number, 0 if there is no such step
unfoldable pub step_tick : Recorded → ℕ → ℕ
step_tick t number = if (nat_le 1 number && nat_le number (length t.steps)) then tick_of t number else 0

-- a decision of a run, in the tick of the step that makes it
abbrev pub with_tick : Recorded → RunDecision → Decision
with_tick t d = record { proc = d.processor; tick = step_tick t d.step; value = d.value }

-- The trace records a run, and these are its decisions, in the order of their steps.
pub record AreReplayed (t : Recorded) (found : List Decision) : Type 0 where
  pub run : IsRun t.config t.steps
  pub all : found ≡ map (with_tick t) (decisions t.config t.steps)
