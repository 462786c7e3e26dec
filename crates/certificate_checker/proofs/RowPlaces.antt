-- Rows by their numbers.
use Rattle.std.proofs.Common.{ℕ, ◌≡◌, ◌+◌, ◌-◌, ◌<◌, inl, inr, List, map, get_or, Contains, Some, None, option_map, ap, sym, ◌∙◌, suc, zero, arith}
use Rattle.std.specs.Prelude.{slice_get}
use Rattle.std.specs.List.Sorted.{IsStrictlyIncreasing}
use Rattle.std.proofs.lemmas.Bool.{cases_eq}
use Rattle.std.proofs.lemmas.Option.{none-some, same_Some, slice_get-map, slice_get_within, slice_get-get_or, get_or_from_slice_get}
use Rattle.std.proofs.lemmas.List.{length-map}
use Rattle.certificate_checker.proofs.Common.{Row, row_at, HasTwoRows}

-- and each of the rows has a number
pub row_at-from_Contains : (rows : List Row) (r : Row) → Contains rows r → (k : ℕ) × (row_at rows k ≡ Some r)
row_at-from_Contains rows r c = (suc c.0, slice_get-get_or rows c.0 r c.1 ∙ ap (λ (x : Row). Some x) c.2)

-- another row comes before a row with a number above 1
pub row_before : (rows : List Row) (k : ℕ) (r : Row) → row_at rows (suc (suc k)) ≡ Some r → (b : Row) × (row_at rows (suc k) ≡ Some b)
row_before rows k r e = (get_or rows k r, slice_get-get_or rows k r (omega (arith, slice_get_within rows (suc k) r e)))

-- a row and the one after it
abbrev pub two_rows : (rows : List Row) (k : ℕ) (a b : Row) → row_at rows k ≡ Some a → row_at rows (suc k) ≡ Some b
    → HasTwoRows rows (suc k)
two_rows rows k a b p q = record { before = a; row = b; there = (let e : suc k - 1 ≡ k = omega arith in rw e p); here = q }

-- the stabilization time of a row, in the list of stabilization times
gst_at : (rows : List Row) (k : ℕ) (r : Row) → slice_get rows k ≡ Some r → get_or (map (λ x. x.gst) rows) k 0 ≡ r.gst
gst_at rows k r e = get_or_from_slice_get (map (λ x. x.gst) rows) k r.gst 0
    (slice_get-map (λ x. x.gst) rows k ∙ ap (λ o. option_map (λ (x : Row). x.gst) o) e)

-- if the rows rise, each stabilization time is below that of the next row
next_above : (rows : List Row) (k : ℕ) (a b : Row)
    → IsStrictlyIncreasing (map (λ x. x.gst) rows) → slice_get rows k ≡ Some a → slice_get rows (k + 1) ≡ Some b → a.gst < b.gst
next_above rows k a b rising p q =
    let size = length-map rows (λ (x : Row). x.gst) in
    let l = rising k (omega (arith, size, slice_get_within rows (k + 1) b q)) in
    rw (gst_at rows k a p, gst_at rows (k + 1) b q) at l

-- and below that of each later one
pub later_above : (rows : List Row) (j k : ℕ) (a b : Row)
    → IsStrictlyIncreasing (map (λ x. x.gst) rows) → row_at rows j ≡ Some a → row_at rows k ≡ Some b → j < k → a.gst < b.gst
later_above rows zero k a b rising p q l = absurd (none-some a p)
later_above rows (suc j) zero a b rising p q l = absurd (none-some b q)
later_above rows (suc j) (suc zero) a b rising p q l = absurd (omega (arith, l))
later_above rows (suc j) (suc (suc k)) a b rising p q l =
    let before = row_before rows k b q in
    let last : (before.0).gst < b.gst = next_above rows k before.0 b rising before.1 (let e : k + 1 ≡ suc k = omega arith in rw e q) in
    elim (cases_eq j k) [
      | inl e ↦ (let same : a ≡ before.0 = same_Some a before.0 (sym p ∙ ap (slice_get rows) e ∙ before.1) in
          let gst = ap (λ (x : Row). x.gst) same in omega (arith, gst, last))
      | inr d ↦ (let more = later_above rows (suc j) (suc k) a before.0 rising p before.1 (omega (arith, d, l)) in
          omega (arith, more, last))
    ]

-- rows of which each begins before the next one rise
pub rising-from_next : (rows : List Row) → ((k : ℕ) (a b : Row) → row_at rows k ≡ Some a → row_at rows (suc k) ≡ Some b → a.gst < b.gst)
    → IsStrictlyIncreasing (map (λ x. x.gst) rows)
rising-from_next rows next = λ k inside.
    let size = length-map rows (λ (x : Row). x.gst) in
    let d : Row = record { gst = 0; delta = 0; phi = 0; miss = None; gap = None } in
    let p = slice_get-get_or rows k d (omega (arith, size, inside)) in
    let e : k + 1 ≡ suc k = omega arith in
    let q = slice_get-get_or rows (suc k) d (omega (arith, size, inside)) in
    let above = next (suc k) (get_or rows k d) (get_or rows (suc k) d) p q in
    rw (e, gst_at rows k (get_or rows k d) p, gst_at rows (suc k) (get_or rows (suc k) d) q) above
