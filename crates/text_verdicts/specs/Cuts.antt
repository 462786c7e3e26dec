-- The part of a trace that is meant: all of it, or the trace cut at a tick.
use Rattle.std.specs.Prelude.{ℕ, ◌≡◌, ◌≤◌, Option, Some, None}
use Rattle.step_trace.specs.Traces.{Recorded}
use Rattle.step_trace.specs.Cuts.{IsCutAt}

-- the tick is one of the trace
abbrev pub IsTickOf : Recorded → ℕ → Type 0
IsTickOf t tick = (1 ≤ tick) × (tick ≤ t.last)

-- the trace that is reported: all of it, or the trace cut at one of its ticks
abbrev pub IsReportedTo : Option ℕ → Recorded → Recorded → Type 0
IsReportedTo None t reported = reported ≡ t
IsReportedTo (Some tick) t reported = IsTickOf t tick × IsCutAt t tick reported
