-- Searches for the first row, or the first row with the row before it, of which something is so.
use Rattle.std.proofs.Common.{ℕ, ◌≡◌, ◌+◌, ◌-◌, ◌<◌, ◌≤◌, inl, inr, List, length, get_or, Some, None, ap, sym, subst, ◌∙◌, suc, arith}
use Rattle.std.proofs.lemmas.Bool.{cases_eq}
use Rattle.std.proofs.lemmas.Option.{same_Some, slice_get-get_or}
use Rattle.step_trace.proofs.ReportRows.{row_at_within}
use Rattle.certificate_checker.proofs.Common.{Row, row_at, HasRow, HasTwoRows, IsFirst}

-- what is read if there is no row
abbrev pub no_row : Row
no_row = record { gst = 0; delta = 0; phi = 0; miss = None; gap = None }

-- the row after k rows
pub row_at_next : (rows : List Row) (k : ℕ) (d : Row) → k < length rows → row_at rows (k + 1) ≡ Some (get_or rows k d)
row_at_next rows k d l = let e : k + 1 ≡ suc k = omega arith in rw e (slice_get-get_or rows k d l)

-- it is that one only
pub row_at_same : (rows : List Row) (k : ℕ) (r d : Row) → row_at rows (k + 1) ≡ Some r → r ≡ get_or rows k d
row_at_same rows k r d e =
    let w = row_at_within rows (k + 1) r e in
    same_Some r (get_or rows k d) (sym e ∙ row_at_next rows k d (omega (arith, w.1)))

-- the first row of which this is so, if it is so of none before
pub row_found : (Q : ℕ → Row → Type 0) (rows : List Row) (k : ℕ) (d : Row) → k < length rows → Q (k + 1) (get_or rows k d)
    → ((j : ℕ) → ((a : HasRow rows j) × Q j a.row) → k < j) → IsFirst (λ j. (a : HasRow rows j) × Q j a.row) (Some (k + 1))
row_found Q rows k d l q n = (
  (record { row = get_or rows k d; here = row_at_next rows k d l }, q),
  λ j h. (let m = n j h in omega arith),
)

-- if it isn't so of the next row either, it is so of a later one
pub row_passed : (Q : ℕ → Row → Type 0) (rows : List Row) (k : ℕ) (d : Row) → (¬ Q (k + 1) (get_or rows k d))
    → ((j : ℕ) → ((a : HasRow rows j) × Q j a.row) → k < j) → (j : ℕ) → ((a : HasRow rows j) × Q j a.row) → k + 1 < j
row_passed Q rows k d other n j h = elim (cases_eq j (k + 1)) [
  | inl e ↦ absurd (other (subst (λ (r : Row). Q (k + 1) r)
      (row_at_same rows k h.0.row d (subst (λ (i : ℕ). row_at rows i ≡ Some h.0.row) e h.0.here)) (subst (λ (i : ℕ). Q i h.0.row) e h.1)))
  | inr e ↦ (let m = n j h in omega (arith, e, m))
]

-- if all rows were passed it is so of none
pub row_none : (Q : ℕ → Row → Type 0) (rows : List Row) (k : ℕ) → length rows ≤ k
    → ((j : ℕ) → ((a : HasRow rows j) × Q j a.row) → k < j) → (j : ℕ) → ¬ ((a : HasRow rows j) × Q j a.row)
row_none Q rows k l n j h = let w = row_at_within rows j h.0.row h.0.here in let m = n j h in omega (arith, w.1, m, l)

-- before the first row there is none
pub row_first : (Q : ℕ → Row → Type 0) (rows : List Row) (j : ℕ) → ((a : HasRow rows j) × Q j a.row) → 0 < j
row_first Q rows j h = let w = row_at_within rows j h.0.row h.0.here in omega (arith, w.0)

-- the same of a row and the row before it
pub two_rows_found : (Q : Row → Row → Type 0) (rows : List Row) (k : ℕ) (d : Row) → 1 ≤ k
    → k < length rows → Q (get_or rows (k - 1) d) (get_or rows k d) → ((j : ℕ) → ((a : HasTwoRows rows j) × Q a.before a.row) → k < j)
    → IsFirst (λ j. (a : HasTwoRows rows j) × Q a.before a.row) (Some (k + 1))
two_rows_found Q rows k d o l q n =
    let back : k + 1 - 1 ≡ k - 1 + 1 = omega arith in (
      (
        record {
          before = get_or rows (k - 1) d;
          row = get_or rows k d;
          there = rw back (row_at_next rows (k - 1) d (omega arith));
          here = row_at_next rows k d l;
        },
        q,
      ),
      λ j h. (let m = n j h in omega arith),
    )

-- if it isn't so of the next
pub two_rows_passed : (Q : Row → Row → Type 0) (rows : List Row) (k : ℕ) (d : Row) → 1 ≤ k → (¬ Q (get_or rows (k - 1) d) (get_or rows k d))
    → ((j : ℕ) → ((a : HasTwoRows rows j) × Q a.before a.row) → k < j) → (j : ℕ) → ((a : HasTwoRows rows j) × Q a.before a.row) → k + 1 < j
two_rows_passed Q rows k d o other n j h = elim (cases_eq j (k + 1)) [
  | inl e ↦ absurd (let back : k + 1 - 1 ≡ k - 1 + 1 = omega arith in
      let row = row_at_same rows k h.0.row d (subst (λ (i : ℕ). row_at rows i ≡ Some h.0.row) e h.0.here) in
      let before = row_at_same rows (k - 1) h.0.before d
      (subst (λ (i : ℕ). row_at rows i ≡ Some h.0.before) (ap (λ (i : ℕ). i - 1) e ∙ back) h.0.there) in
      other (subst (λ (r : Row). Q (get_or rows (k - 1) d) r) row (subst (λ (r : Row). Q r h.0.row) before h.1)))
  | inr e ↦ (let m = n j h in omega (arith, e, m))
]

-- if all were passed
pub two_rows_none : (Q : Row → Row → Type 0) (rows : List Row) (k : ℕ) → length rows ≤ k
    → ((j : ℕ) → ((a : HasTwoRows rows j) × Q a.before a.row) → k < j) → (j : ℕ) → ¬ ((a : HasTwoRows rows j) × Q a.before a.row)
two_rows_none Q rows k l n j h = let w = row_at_within rows j h.0.row h.0.here in let m = n j h in omega (arith, w.1, m, l)

-- before the second row there is none
pub two_rows_first : (Q : Row → Row → Type 0) (rows : List Row) (j : ℕ) → ((a : HasTwoRows rows j) × Q a.before a.row) → 1 < j
two_rows_first Q rows j h = let w = row_at_within rows (j - 1) h.0.before h.0.there in omega (arith, w.0)
