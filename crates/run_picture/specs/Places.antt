-- Where ticks and lanes are drawn, in tenths of a pixel (own).
use Rattle.std.specs.Prelude.{ℕ, ◌+◌, ◌-◌, ◌*◌, ◌/◌, nat_lt, nat_le, min, max, if◌then◌else◌}
use Rattle.run_picture.specs.declared.frames.Frame.{Frame}
use Rattle.run_picture.specs.declared.frames.TheConstants.{LEFT, WIDTH, LANES_TOP}
use Rattle.picture_marks.specs.declared.windows.TheConstants.{MAX_WINDOW}
use Rattle.run_picture.specs.ShownLanes.{lane_number}

-- half of the height of each of so many lanes
abbrev pub half_lane : ℕ → ℕ
half_lane lanes = if nat_lt 16 lanes then 110 else 220

-- the middle of the lane of processor p
abbrev pub lane_middle : Frame → ℕ → ℕ
lane_middle f p = LANES_TOP + (min (max (lane_number f.shown p) 1) 64 * 2 - 1) * half_lane f.lanes

-- how many ticks are drawn
abbrev pub tick_count : Frame → ℕ
tick_count f = min (f.to - f.first) (MAX_WINDOW - 1) + 1

-- the left edge of tick t, or the right edge of the window, if t is after it
abbrev pub tick_edge : Frame → ℕ → ℕ
tick_edge f t = LEFT + min (t - f.first) (tick_count f) * WIDTH / tick_count f

-- the middle of tick t
abbrev pub tick_middle : Frame → ℕ → ℕ
tick_middle f t = LEFT + (min (t - f.first) (tick_count f - 1) * 2 + 1) * WIDTH / (tick_count f * 2)

-- half of the width of a tick
abbrev pub half_tick : Frame → ℕ
half_tick f = WIDTH / (tick_count f * 2)

-- what lies so many parts of the whole from height a to height b: no more of them than there are
abbrev pub height_at : ℕ → ℕ → ℕ → ℕ → ℕ
height_at a b part whole =
    if nat_le a b then a + (b - a) * min part (max whole 1) / max whole 1
    else a - (a - b) * min part (max whole 1) / max whole 1

-- The line of a message from the middle of tick s in lane p to the middle of tick e in lane q, counted in half ticks.
-- This is its height at the left edge of the window, or at its beginning, if it begins in the window.
abbrev pub left_height : Frame → ℕ → ℕ → ℕ → ℕ → ℕ
left_height f s p e q = height_at (lane_middle f p) (lane_middle f q) ((f.first - s) * 2 - 1) ((e - s) * 2)

-- its height at the right edge of the window, or at its end, if it ends in the window
abbrev pub right_height : Frame → ℕ → ℕ → ℕ → ℕ → ℕ
right_height f s p e q = height_at (lane_middle f p) (lane_middle f q) ((f.to - s) * 2 + 1) ((e - s) * 2)

-- where it begins
abbrev pub left_end : Frame → ℕ → ℕ
left_end f s = if nat_lt s f.first then LEFT else tick_middle f s

-- where it ends
abbrev pub right_end : Frame → ℕ → ℕ
right_end f e = if nat_lt f.to e then LEFT + WIDTH else tick_middle f e

-- where the short line of a message that nobody takes ends: 7 tenths of half a lane towards its receiver
abbrev pub lost_height : Frame → ℕ → ℕ → ℕ
lost_height f p q =
    if nat_lt q p then lane_middle f p - half_lane f.lanes * 7 / 10
    else lane_middle f p + half_lane f.lanes * 7 / 10
