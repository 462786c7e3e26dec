-- The ticks that are drawn (own).
use Rattle.std.specs.Prelude.{ℕ, ◌≡◌, ◌<◌, ◌≤◌, Bool, ◌&&◌, ◌||◌, ◌==◌, ◌+◌, ◌-◌, nat_le, nat_lt}
use Rattle.std.specs.Prelude.{min, max, Option, Some, None, Result, Ok, Err, if◌then◌else◌}
use Rattle.std.specs.Option.{unwrap_or}
use Rattle.picture_marks.specs.declared.windows.TheConstants.{USUAL_TICKS, MAX_WINDOW}
use Rattle.picture_marks.specs.declared.windows.Window.{Window}
use Rattle.picture_marks.specs.declared.windows.WindowError.{WindowError}
use Rattle.picture_marks.specs.declared.windows.WindowError.TheVariants.{BadFrom, BadTo}

-- whether what lasts from tick a to tick b touches the window
abbrev pub touches : Window → ℕ → ℕ → Bool
touches w a b = nat_le a w.to && nat_le w.first b

-- the last tick in the picture: the one that is asked for, or that of so many as are usual, but none after the last one
-- of the trace
abbrev pub last_drawn : ℕ → ℕ → Option ℕ → ℕ
last_drawn last first (Some to) = min to last
last_drawn last first None = min last (first + (USUAL_TICKS - 1))

-- the ticks from the one to the other, at least one and at most MAX_WINDOW. A refusal has the last tick that is asked
-- for.
abbrev pub window_between : ℕ → ℕ → Option ℕ → Result Window WindowError
window_between first drawn to =
    if nat_lt drawn first || nat_le MAX_WINDOW (drawn - first) then Err (BadTo (unwrap_or to drawn) first)
    else Ok (record { first = first; to = drawn })

-- the window from this tick on, which is one of the trace; of a trace with no tick it is empty
abbrev pub window_from : ℕ → ℕ → Option ℕ → Result Window WindowError
window_from last first to =
    if nat_lt first 1 || nat_lt (max last 1) first then Err (BadFrom first last)
    else if last == 0 then Ok (record { first = first; to = 0 })
    else window_between first (last_drawn last first to) to

-- the window that is asked for, of a trace with this last tick: from tick 1 if no first one is given
abbrev pub window_of : ℕ → Option ℕ → Option ℕ → Result Window WindowError
window_of last from to = window_from last (unwrap_or from 1) to

-- What a refusal says: the tick that is asked for is none of the trace. Or it is before the first one, or too far after
-- it.
abbrev pub IsUnfitWindow : ℕ → Option ℕ → Option ℕ → WindowError → Type 0
IsUnfitWindow last from to (BadFrom given end) = (from ≡ Some given) × (end ≡ last) × (1 ≤ given → max last 1 < given)
IsUnfitWindow last from to (BadTo given first) = (to ≡ Some given) × (first ≡ unwrap_or from 1)
    × (first ≤ given → first + MAX_WINDOW ≤ given)
