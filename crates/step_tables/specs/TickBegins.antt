-- When the ticks of a trace begin, by a table of its steps (own).
use Rattle.std.specs.Prelude.{ℕ, ◌≡◌, ◌≤◌, ◌<◌, ◌+◌, ◌-◌, ◌*◌, ◌==◌, Bool, true, false}
use Rattle.std.specs.Prelude.{List, length, Option, slice_get}
use Rattle.std.specs.Option.{option_and_then, option_map_or}
use Rattle.step_trace.specs.Traces.{Recorded}
use Rattle.step_trace.specs.Ticks.{tick_of}
use Rattle.step_tables.specs.declared.tick_begins.TickTimes.{TickTimes}
use Rattle.step_tables.specs.Told.{Said}

-- how many ticks come before that of step k
abbrev pub ticks_before : Recorded → ℕ → ℕ
ticks_before trace k = tick_of trace k - 1

-- when the tick of the step at a place, from 0, is said to begin
abbrev pub begin_at : List Said → ℕ → Option ℕ
begin_at rows place = option_and_then (λ row. row.begins) (slice_get rows place)

-- whether it is said to begin at these times
abbrev pub is_at_time : Recorded → TickTimes → List Said → ℕ → Bool
is_at_time trace t rows place = option_map_or (λ begin. begin == t.first + ticks_before trace (place + 1) * t.width)
    (begin_at rows place) false

-- each step is said to begin at these times
abbrev pub AreAt : Recorded → TickTimes → List Said → Type 0
AreAt trace t rows = (place : ℕ) → place < length rows → is_at_time trace t rows place ≡ true

-- a tick has a length, and each step is said to begin at these times
pub record AreTickTimes (trace : Recorded) (rows : List Said) (t : TickTimes) : Type 0 where
  pub positive : 1 ≤ t.width
  pub each : AreAt trace t rows

-- there are no such times, unless the tick of the last step is that of the first
abbrev pub AreUntimed : Recorded → List Said → Type 0
AreUntimed trace rows = (t : TickTimes) → AreTickTimes trace rows t
    → ticks_before trace (length rows) ≤ ticks_before trace 1
