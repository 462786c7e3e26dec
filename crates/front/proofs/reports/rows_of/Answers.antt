use Rattle.std.proofs.Common.{ℕ, ◌≡◌, ◌<◌, ◌+◌, ◌∙◌, List, [], ◌∷◌, ◌++◌, length, Some, None, inl, inr, slice_get, take, take_all, vec_len, refl, sym, arith}
use Rattle.std.proofs.lemmas.Bool.{cases_lt}
use Rattle.std.proofs.lemmas.List.{take_more}
use Rattle.std.proofs.lemmas.Option.{none-some, slice_get_within, slice_get-get_or, get_or_from_slice_get}
use Rattle.step_trace.specs.declared.rows.Row.{Row}
use Rattle.suffix_staircase.specs.Levels.{rows_of}
use Rattle.suffix_staircase.specs.declared.levels.Level.{Level}
use Rattle.suffix_staircase.proofs.RowLaws.{AreRows-rows}
use Rattle.front.proofs.reports.rows_of.Goals as goal

-- one row more
take_next : (rows : List Row) (k : ℕ) (r : Row) → Some r ≡ slice_get rows k → take k rows ++ r ∷ [] ≡ take (k + 1) rows
take_next rows k r e =
    sym (take_more rows k r (slice_get_within rows k r (sym e)) ∙ rw (get_or_from_slice_get rows k r r (sym e)) refl)

-- if there is no further row, all were taken
all_taken : (rows : List Row) (k : ℕ) → None ≡ slice_get rows k → take k rows ≡ rows
all_taken [] k none = take_all k [] (omega arith)
all_taken (r ∷ rest) k none = take_all k (r ∷ rest) (elim (cases_lt k (length (r ∷ rest))) [
  | inl l ↦ absurd (none-some _ (none ∙ slice_get-get_or (r ∷ rest) k r l))
  | inr m ↦ m
])

-- only levels have rows
levels-of_row : (levels : List Level) (k : ℕ) (r : Row) → Some r ≡ slice_get (rows_of levels) k → 0 < length levels
levels-of_row [] k r e = absurd (none-some r (sym e))
levels-of_row (level ∷ rest) k r e = omega arith

pub loop-row-preserved : goal.loop-row-preserved
loop-row-preserved c =
    rw (c.in_ok-push.ensures.len, c.in_ok-push.ensures.items, c.loop-row.invariant)
    (take_next (rows_of c.args.stairs.now) (vec_len c.loop-row.rows) c.in-Some.row
    (rw c.len.ensures at c.in-Some.ensures))

pub returns-clause-items : goal.returns-clause-items
returns-clause-items c =
    c.loop-row.invariant ∙ all_taken (rows_of c.args.stairs.now) (vec_len c.loop-row.rows)
    (rw c.len.ensures at c.in_default.ensures)

pub returns-clause-rising : goal.returns-clause-rising
returns-clause-rising c = rw (returns-clause-items c) (AreRows-rows c.args.stairs.now).rising
