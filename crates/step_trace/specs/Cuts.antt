-- Traces that end earlier (own).
use Rattle.std.specs.Prelude.{ℕ, ◌≡◌, ◌<◌, length, take, Some}
use Rattle.step_trace.specs.declared.steps.Step.{Step}
use Rattle.step_trace.specs.Traces.{Recorded, step_at}
use Rattle.step_trace.specs.Ticks.{tick_of}
use Rattle.step_trace.specs.Extensions.{Extends}

-- A trace cut at a tick is the trace as if it ended there. The trace goes on from it, its last tick is that tick, and
-- each step of the trace that it hasn't is in a later tick.
pub record IsCutAt (trace : Recorded) (tick : ℕ) (cut : Recorded) : Type 0 where
  pub extends : Extends trace cut
  pub last : cut.last ≡ tick
  pub after : (k : ℕ) (x : Step) → length cut.steps < k → step_at trace.steps k ≡ Some x → tick < tick_of trace k

-- the first n steps of a trace, which end with this tick
abbrev pub front_to : Recorded → ℕ → ℕ → Recorded
front_to trace n tick =
    record { config = trace.config; steps = take n trace.steps; ticks = take n trace.ticks; last = tick }

-- the first n steps of a trace, which end in the tick of the last of them
abbrev pub first_steps : Recorded → ℕ → Recorded
first_steps trace n = front_to trace n (tick_of trace n)
