-- Where the staircase of both bounds is drawn, in tenths of a pixel (own).
use Rattle.std.specs.Prelude.{ℕ, ◌+◌, ◌-◌, ◌*◌, ◌/◌, min, max}
use Rattle.step_trace.specs.declared.traces.TheConstants.{MAX_TICKS}
use Rattle.run_words.specs.BoundScales.{rise}
use Rattle.run_picture.specs.declared.frames.TheConstants.{LEFT, WIDTH}
use Rattle.run_picture.specs.declared.staircase.Axes.{Axes}
use Rattle.run_picture.specs.declared.staircase.TheConstants.{TOP, HEIGHT}

-- how many ticks there are, at least one
abbrev pub all_ticks : Axes → ℕ
all_ticks a = min (max a.last 1) MAX_TICKS

-- the left edge of tick t, or the right edge of all, if t is after the last
abbrev pub column_edge : Axes → ℕ → ℕ
column_edge a t = LEFT + min (t - 1) (all_ticks a) * WIDTH / all_ticks a

-- the middle of tick t
abbrev pub column_middle : Axes → ℕ → ℕ
column_middle a t = LEFT + (min (max t 1) (all_ticks a) * 2 - 1) * WIDTH / (all_ticks a * 2)

-- the height of a bound
abbrev pub bound_height : Axes → ℕ → ℕ
bound_height a bound = TOP + HEIGHT - rise a.scale bound HEIGHT
