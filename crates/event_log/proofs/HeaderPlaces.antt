-- The places of a column in a header, looked through one after the other.
use Rattle.std.proofs.Common.{◌≡◌, ◌∙◌, ℕ, ◌+◌, ◌<◌, ◌≤◌, List, [], length, drop, true, false, cond, Some, None, ap, sym, refl}
use Rattle.std.specs.List.{position_from}
use Rattle.std.proofs.lemmas.List.{drop_more, drop_all}
use Rattle.trace_text.specs.Records.{field_of}
use Rattle.trace_text.proofs.NumberLists.{field_of-get_or}
use Rattle.event_log.specs.Columns.{is_named, place_from}
use Rattle.event_log.specs.declared.columns.Column.{Column}

step : (i : ℕ) (header : List (List ℕ)) (c : Column) → i < length header
    → place_from i header c ≡ cond (is_named c (field_of header i)) (Some i) (place_from (i + 1) header c)
unfolding place_from
step i header c lt =
    ap (λ rest. position_from (is_named c) i rest) (drop_more header i [] lt)
    ∙ ap (λ f. cond (is_named c f) (Some i) (position_from (is_named c) (i + 1) (drop (i + 1) header))) (sym (field_of-get_or header i))

-- the column is at this place
pub place-found : (i : ℕ) (header : List (List ℕ)) (c : Column)
    → i < length header → is_named c (field_of header i) ≡ true → place_from i header c ≡ Some i
place-found i header c lt e = rw (step i header c lt, e) refl

-- it isn't
pub place-later : (i : ℕ) (header : List (List ℕ)) (c : Column)
    → i < length header → is_named c (field_of header i) ≡ false → place_from i header c ≡ place_from (i + 1) header c
place-later i header c lt e = rw (step i header c lt, e) refl

-- there is no place left
pub place-none : (i : ℕ) (header : List (List ℕ)) (c : Column) → length header ≤ i → place_from i header c ≡ None
unfolding place_from
place-none i header c le = ap (λ rest. position_from (is_named c) i rest) (drop_all i header le)
