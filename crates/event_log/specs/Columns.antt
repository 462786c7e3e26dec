-- The header of a log: which column is where.
use Rattle.std.specs.Prelude.{ℕ, ◌+◌, List, [], ◌∷◌, Option, Some, None, Result, Ok, Err, Bool}
use Rattle.std.specs.Prelude.{codes, drop, find, is_none, is_some, length, unwrap_or}
use Rattle.std.specs.List.{position_from}
use Rattle.std.specs.Option.{option_and_then}
use Rattle.std.specs.Str.{bytes_eq}
use Rattle.event_log.specs.declared.columns.Column.{Column}
use Rattle.event_log.specs.declared.columns.Column.TheVariants as column
use Rattle.event_log.specs.declared.columns.Columns.{Columns}
use Rattle.event_log.specs.declared.refusals.LogError.{LogError}
use Rattle.event_log.specs.declared.refusals.LogError.TheVariants.{NoColumn, TwoColumns}

-- the name of a column
abbrev pub name_of : Column → List ℕ
name_of column.Time = codes "time"
name_of column.Node = codes "node"
name_of column.Event = codes "event"
name_of column.To = codes "to"
name_of column.Message = codes "message"

-- the columns, in the order in which they are looked for
abbrev pub all_columns : List Column
all_columns = column.Time ∷ column.Node ∷ column.Event ∷ column.To ∷ column.Message ∷ []

-- whether a field is a column's name
abbrev pub is_named : Column → List ℕ → Bool
is_named c field = bytes_eq field (name_of c)

-- the first place of a column in a header, from a place on
unfoldable pub place_from : ℕ → List (List ℕ) → Column → Option ℕ
place_from start header c = position_from (is_named c) start (drop start header)

abbrev pub place_in : List (List ℕ) → Column → Option ℕ
place_in header c = place_from 0 header c

-- whether a header has no such column, and whether it has another one after the first
abbrev pub lacks : List (List ℕ) → Column → Bool
lacks header c = is_none (place_in header c)

abbrev pub has_twice : List (List ℕ) → Column → Bool
has_twice header c = is_some (option_and_then (λ i. place_from (i + 1) header c) (place_in header c))

-- the places of the columns if each is there
abbrev pub places_in : List (List ℕ) → Columns
places_in header = record {
  time = unwrap_or (place_in header column.Time) 0;
  node = unwrap_or (place_in header column.Node) 0;
  event = unwrap_or (place_in header column.Event) 0;
  to = unwrap_or (place_in header column.To) 0;
  message = unwrap_or (place_in header column.Message) 0;
  fields = length header;
}

-- a column that occurs twice refuses the header
abbrev pub unless_twice : Option Column → Columns → Result Columns LogError
unless_twice None columns = Ok columns
unless_twice (Some c) columns = Err (TwoColumns c)

-- a missing one refuses it before that
abbrev pub unless_lacking : Option Column → Result Columns LogError → Result Columns LogError
unless_lacking None columns = columns
unless_lacking (Some c) columns = Err (NoColumn c)

-- the columns of a header: each of the five occurs in it once
abbrev pub columns_of : List (List ℕ) → Result Columns LogError
columns_of header = unless_lacking (find (lacks header) all_columns)
    (unless_twice (find (has_twice header) all_columns) (places_in header))
