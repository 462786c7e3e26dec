-- Where the strips of steps are drawn, below the staircase, in tenths of a pixel (own).
use Rattle.std.specs.Prelude.{ℕ, ◌==◌, ◌&&◌, ◌+◌, ◌-◌, ◌*◌, ◌/◌, nat_le, nat_lt, min, max, if◌then◌else◌}
use Rattle.run_picture.specs.declared.frames.TheConstants.{LEFT, WIDTH}
use Rattle.picture_marks.specs.declared.report_rows.TheConstants.{COLUMNS}
use Rattle.run_picture.specs.declared.staircase.TheConstants.{TOP, HEIGHT}
use Rattle.run_picture.specs.declared.strips.Strips.{Strips}
use Rattle.run_picture.specs.declared.strips.TheConstants.{FEW_STRIPS, SPACE}
use Rattle.picture_marks.specs.declared.windows.Window.{Window}
use Rattle.run_picture.specs.ShownLanes.{lane_number}

-- how many strips there are for so many lanes: none if the window has all ticks up to the last
abbrev pub strip_count : Window → ℕ → ℕ → ℕ
strip_count w last lanes = if nat_le w.first 1 && nat_le last w.to then 0 else lanes

-- half of the height of each of so many strips
abbrev pub half_strip : ℕ → ℕ
half_strip count = if nat_lt FEW_STRIPS count then 35 else 60

-- how much room they take
abbrev pub strips_height : Strips → ℕ
strips_height s = if s.count == 0 then 0 else SPACE + min s.count 64 * 2 * half_strip s.count

-- the middle of the strip of processor p
abbrev pub strip_middle : Strips → ℕ → ℕ
strip_middle s p = TOP + HEIGHT + SPACE + (min (max (lane_number s.shown p) 1) 64 * 2 - 1) * half_strip s.count

-- the left edge of column c of so many, or the right edge of all, if c is after the last
abbrev pub stroke_edge : ℕ → ℕ → ℕ
stroke_edge columns c = LEFT + min c (min (max columns 1) COLUMNS) * WIDTH / min (max columns 1) COLUMNS
