-- The table of the lengths of a tick for a log, as text, and the note on it.
use Rattle.std.specs.Prelude.{ℕ, ◌*◌, Bool, false, List, [], ◌∷◌, ◌++◌, if◌then◌else◌}
use Rattle.std.specs.Prelude.{fold, codes, decimal, nat_le, Option, Some, None}
use Rattle.std.specs.List.{flat_map}
use Rattle.std.specs.Option.{option_map_or}
use Rattle.event_log.specs.declared.tick_rows.Placing.{Placing}
use Rattle.event_log.specs.declared.tick_rows.TickRow.{TickRow}
use Rattle.event_log.specs.declared.times.TimeKind.{TimeKind}
use Rattle.event_log.specs.TickRows.{tick_nanoseconds}
use Rattle.text_commands.specs.TimeWords.{scaled_words}

-- a length of a tick, as --tick takes it: in nanoseconds, unless times are whole numbers of no unit
abbrev pub length_words : ℕ → Option ℕ → List ℕ
length_words width None = decimal width
length_words width (Some nanoseconds) = scaled_words nanoseconds

-- the length of a row
abbrev pub row_length : TimeKind → TickRow → List ℕ
row_length kind row = length_words row.width (tick_nanoseconds kind row.width)

-- the line of a row: the length of a tick, the last tick, how many events move, and by how many ticks at most
abbrev pub placing_line : List ℕ → Placing → List ℕ
placing_line length p = length
    ++ (codes "," ++ (decimal p.last ++ (codes "," ++ (decimal p.moved ++ (codes "," ++ (decimal p.most ++ 10 ∷ []))))))

-- the same; nothing if the trace would have too many ticks
abbrev pub placing_text : List ℕ → Option Placing → List ℕ
placing_text length None = []
placing_text length (Some p) = placing_line length p

abbrev pub row_text : TimeKind → TickRow → List ℕ
row_text kind row = placing_text (row_length kind row) row.placing

-- the table
abbrev pub ticks_text : TimeKind → List TickRow → List ℕ
ticks_text kind rows = codes "tick,last,moved,most" ++ 10 ∷ flat_map (row_text kind) rows

-- whether at most one in a hundred events moves by more than one tick
abbrev pub is_near : Placing → Bool
is_near p = nat_le (p.far * 100) p.events

-- the row with the longest ticks of which that holds: the last one, since they get longer
abbrev pub later_near : Option TickRow → TickRow → Option TickRow
later_near found row = if option_map_or is_near row.placing false then Some row else found

abbrev pub nearest : List TickRow → Option TickRow
nearest rows = fold later_near None rows

-- the line that names it
abbrev pub near_line : TimeKind → Option TickRow → List ℕ
near_line kind None = codes "synchrony: each of these moves more than 1 in 100 events by more than one tick" ++ 10 ∷ []
near_line kind (Some row) = codes "synchrony: --tick "
    ++ (row_length kind row
    ++ (codes " is the longest that moves at most 1 in 100 events by more than one tick" ++ 10 ∷ []))

-- the note on the table
abbrev pub tick_notes : TimeKind → List TickRow → List ℕ
tick_notes kind rows = near_line kind (nearest rows)
