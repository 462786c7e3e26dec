-- Round times below an axis of ticks (own). Times are nanoseconds from when tick 1 begins.
use Rattle.std.specs.Prelude.{ℕ, ◌+◌, ◌-◌, ◌*◌, ◌/◌, Option, Some, None, if◌then◌else◌, max, min, nat_le}
use Rattle.run_words.specs.Clocks.{power_within, time_of}
use Rattle.run_words.specs.RoundNumbers.{round_step}
use Rattle.run_words.specs.declared.clocks.TheConstants.{LONGEST}
use Rattle.run_picture.specs.declared.frames.TheConstants.{LEFT, WIDTH}
use Rattle.run_picture.specs.declared.time_axes.TheConstants.{MOST_TIMES}
use Rattle.run_picture.specs.declared.time_axes.TimeAxis.{TimeAxis}

-- when the first tick of the axis begins
abbrev pub begin_of : TimeAxis → ℕ
begin_of a = time_of a.clock (a.first - 1)

-- how long its ticks are, all together
abbrev pub span_of : TimeAxis → ℕ
span_of a = max (time_of a.clock a.count) 1

-- the greatest power of ten that goes as often into them as there may be times
abbrev pub power_of : TimeAxis → ℕ
power_of a = max (power_within (span_of a / MOST_TIMES)) 1

-- from one time to the next: 1, 2, 5 or 10 times this power, the least that leaves so many
abbrev pub step_of : TimeAxis → ℕ
step_of a = max (min (power_of a * round_step (span_of a / power_of a) MOST_TIMES) LONGEST) 1

-- to how many nanoseconds a time is told
abbrev pub part_of : TimeAxis → ℕ
part_of a = power_within (step_of a)

-- the first multiple of the step that isn't before the axis, and those after it
abbrev pub round_time : TimeAxis → ℕ → ℕ
round_time a k = ((begin_of a + (step_of a - 1)) / step_of a + k) * step_of a

-- round time number k, from 0, if the axis reaches it
abbrev pub time_at : TimeAxis → ℕ → Option ℕ
time_at a k = if nat_le (round_time a k) (begin_of a + span_of a) then Some (round_time a k) else None

-- where a time is drawn: none after the end of the axis
abbrev pub time_place : TimeAxis → ℕ → ℕ
time_place a t = LEFT + WIDTH * min (t - begin_of a) (span_of a) / span_of a
