-- How far the events of a table were moved to later ticks (own).
use Rattle.std.specs.Prelude.{ℕ, ◌-◌, Bool, List, count_by, fold, is_some, max, nat_lt}
use Rattle.std.specs.Int.{div_ceil}
use Rattle.std.specs.Option.{option_map_or}
use Rattle.step_tables.specs.declared.moves.Moves.{Moves}
use Rattle.step_tables.specs.Told.{Said}

-- whether a step is an event with a time
abbrev pub is_timed : Said → Bool
is_timed row = is_some row.time

-- how long before its tick begins an event was, by the clock; 0 if it wasn't, or that isn't said
abbrev pub ahead_of : Said → ℕ
ahead_of row = option_map_or (λ time. option_map_or (λ begin. begin - time) row.begins 0) row.time 0

-- whether it was moved to a later tick
abbrev pub is_moved : Said → Bool
is_moved row = nat_lt 0 (ahead_of row)

-- by how many ticks of this length, rounded up
abbrev pub moved_by : ℕ → Said → ℕ
moved_by width row = div_ceil (ahead_of row) width

-- the most of all
abbrev pub farthest_of : ℕ → List Said → ℕ
farthest_of width rows = fold (λ most row. max most (moved_by width row)) 0 rows

-- the moves of a table whose ticks have this length
abbrev pub moves_of : ℕ → List Said → Moves
moves_of width rows =
    record { events = count_by is_timed rows; moved = count_by is_moved rows; farthest = farthest_of width rows }
