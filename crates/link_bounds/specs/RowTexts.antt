-- The text of the bounds of processors and links: a header, and a record for each row.
use Rattle.std.specs.Prelude.{ℕ, List, [], ◌∷◌, Option, Some, None, codes, map, option_map}
use Rattle.trace_text.specs.Records.{text_of_records}
use Rattle.front.specs.Columns.{entry_text}
use Rattle.link_bounds.specs.declared.rows.BoundRow.{BoundRow}
use Rattle.link_bounds.specs.declared.rows.BoundRow.TheVariants.{Phi, Delta}

-- the names of the columns
abbrev pub bounds_header : List (List ℕ)
bounds_header = codes "bound" ∷ codes "proc" ∷ codes "to" ∷ codes "value" ∷ codes "first" ∷ codes "last" ∷ []

-- which bound a row has
abbrev pub bound_name : BoundRow → List ℕ
bound_name (Phi p bound) = codes "phi"
bound_name (Delta p q bound) = codes "delta"

-- the entry in each column after that: a number, or nothing if the row has none. First and last are the ticks of a gap,
-- or the numbers of the steps of a miss.
abbrev pub entries_of : BoundRow → List (Option ℕ)
entries_of (Phi p bound) = Some p ∷ None ∷ Some bound.least ∷ option_map (λ w. w.from) bound.witness
    ∷ option_map (λ w. w.to) bound.witness ∷ []
entries_of (Delta p q bound) = Some p ∷ Some q ∷ Some bound.least ∷ option_map (λ m. m.sent) bound.witness
    ∷ option_map (λ m. m.missed) bound.witness ∷ []

-- the record of a row
abbrev pub bound_record : BoundRow → List (List ℕ)
bound_record row = bound_name row ∷ map entry_text (entries_of row)

-- the text of rows
abbrev pub bounds_text : List BoundRow → List ℕ
bounds_text rows = text_of_records (bounds_header ∷ map bound_record rows)
