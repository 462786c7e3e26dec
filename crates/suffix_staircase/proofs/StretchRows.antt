-- The rows of levels that are kept as stretches.
use Rattle.std.proofs.Common.{ℕ, ◌≡◌, ◌+◌, ◌-◌, ◌<◌, ◌≤◌, ◌∙◌, List, [], ◌∷◌, ◌++◌, length, replicate, reverse, get_or, map, Option, Some, None, true, refl, suc, zero, arith}
use Rattle.std.specs.Prelude.{slice_get}
use Rattle.std.specs.Option.{option_map}
use Rattle.std.proofs.lemmas.Bool.{eq-eqb}
use Rattle.std.proofs.lemmas.List.{length-reverse, get_or-reverse}
use Rattle.std.proofs.lemmas.Option.{slice_get-map, slice_get-get_or, slice_get_past}
use Rattle.suffix_staircase.proofs.Common.{Row, Level, Stretch, is_other, row_from, rows_after, rows_of, height, levels_in, AreInOrder, levels_of, AreStretches}
use Rattle.suffix_staircase.proofs.KeptStretches.{length-levels_in, begins-first}

-- equal levels after one of them have no row
rows_after-replicate : (n g : ℕ) (level : Level) (after : List Level)
    → rows_after (Some level) g (replicate n level ++ after) ≡ rows_after (Some level) (g + n) after
rows_after-replicate zero g level after = let e : g + 0 ≡ g = omega arith in rw e refl
rows_after-replicate (suc n) g level after =
    let place : g + suc n ≡ g + 1 + n = omega arith in
    rw (place, eq-eqb level.delta level.delta refl, eq-eqb level.phi level.phi refl)
    (rows_after-replicate n (g + 1) level after)

-- the row of a stretch, if there are so many levels in all
abbrev pub row_in : ℕ → Stretch → Row
row_in total s = row_from (total - s.reach + 1) s.level

-- each stretch has one row
rows-levels_in : (last : Option Level) (g total : ℕ) (stretches : List Stretch) → AreInOrder stretches → 1 ≤ g
    → g + height stretches ≡ total + 1
    → ((s : Stretch) → Some s ≡ slice_get stretches 0 → is_other last s.level ≡ true)
    → rows_after last g (levels_in stretches) ≡ map (row_in total) stretches
rows-levels_in last g total [] a positive e first = refl
rows-levels_in last g total (s ∷ rest) a positive e first =
    let low = a.0 in
    let n = s.reach - height rest - 1 in
    let more : s.reach - height rest ≡ suc n = omega arith in
    let here : g ≡ total - s.reach + 1 = omega arith in
    let others = rows-levels_in (Some s.level) (g + 1 + n) total rest a.2 (omega arith) (omega arith)
    (λ t h. begins-first rest (Some t) s.level a.2 h ∙ a.1) in
    rw (more, first s refl, rows_after-replicate n (g + 1) s.level (levels_in rest), others, ← here) refl

-- so there is one at each place of a stretch
row_at_place : (kept : List Stretch) (i : ℕ) → AreStretches kept
    → slice_get (rows_of (levels_of kept)) i
    ≡ option_map (row_in (length (levels_of kept))) (slice_get (reverse kept) i)
row_at_place kept i a =
    let total = length (levels_of kept) in
    let long = length-levels_in (reverse kept) a in
    rw (rows-levels_in None 1 total (reverse kept) a (omega arith) (omega arith) (λ s h. refl))
    (slice_get-map (row_in total) (reverse kept) i)

-- past the number of stretches there is none
pub no_row : (kept : List Stretch) (i : ℕ) → AreStretches kept → length kept ≤ i
    → None ≡ slice_get (rows_of (levels_of kept)) i
no_row kept i a h =
    rw (row_at_place kept i a, slice_get_past (reverse kept) i (omega (arith, length-reverse kept))) refl

-- the row of a place is that of the stretch of that place, counted from the one that is kept last
pub row_of_place : (kept : List Stretch) (i : ℕ) (d : Stretch) → AreStretches kept → i < length kept
    → Some (row_in (length (levels_of kept)) (get_or kept (length kept - 1 - i) d))
    ≡ slice_get (rows_of (levels_of kept)) i
row_of_place kept i d a h =
    let long = length-reverse kept in
    rw (row_at_place kept i a, slice_get-get_or (reverse kept) i d (omega arith), get_or-reverse kept i d h) refl
