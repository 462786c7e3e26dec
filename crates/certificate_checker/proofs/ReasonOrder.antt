-- The first reason that holds, put together from the searches for each kind of reason.
use Rattle.std.proofs.Common.{ℕ, Bool, true, false, ◌==◌, ◌≡◌, ◌+◌, ◌<◌, ◌≤◌, inl, inr, List, length, get_or, Option, Some, None, refl, ap, subst, ◌∙◌, suc, arith}
use Rattle.std.proofs.lemmas.Bool.{cases_lt, cases_eq}
use Rattle.step_trace.proofs.ReportRows.{row_at_within}
use Rattle.certificate_checker.proofs.Common.{Miss, Gap, Row, Recorded, Reason, NoRows, FirstNotOne, NotRising}
use Rattle.certificate_checker.proofs.Common.{BeyondEnd, NotNonIncreasing, SameAsBefore, BadMiss, BadGap, DeltaFails}
use Rattle.certificate_checker.proofs.Common.{PhiFails, No, row_at, Stands, place_of, row_of, IsVerdict, IsFirstReason}
use Rattle.certificate_checker.proofs.Common.{AreInOrder}
use Rattle.certificate_checker.proofs.RowPlaces.{two_rows, later_above, rising-from_next}
use Rattle.certificate_checker.proofs.RowSearches.{no_row, row_at_next, row_at_same}

-- if none of the first kinds holds, the first of the next kinds is the first of all
pub first_after : (set : ℕ) (t : Recorded) (rows : List Row) (low middle next high : ℕ) (o : Option Reason)
    → next ≡ middle + 1 → IsFirstReason set t rows low middle None → IsFirstReason set t rows next high o
    → IsFirstReason set t rows low high o
first_after set t rows low middle next high None e none later = λ w a b s. elim (cases_lt middle (place_of w)) [
  | inl l ↦ later w (omega (arith, l, e)) b s
  | inr l ↦ none w a l s
]
first_after set t rows low middle next high (Some v) e none later = (
  later.0,
  λ w a s. elim (cases_lt middle (place_of w)) [
    | inl l ↦ later.1 w (omega (arith, l, e)) s
    | inr l ↦ absurd (none w a l s)
  ],
)

-- each kind has a place from 1 to 10
place_low : (w : Reason) → 1 ≤ place_of w
place_low NoRows = omega arith
place_low FirstNotOne = omega arith
place_low (NotRising k) = omega arith
place_low (BeyondEnd k) = omega arith
place_low (NotNonIncreasing k) = omega arith
place_low (SameAsBefore k) = omega arith
place_low (BadMiss k) = omega arith
place_low (BadGap k) = omega arith
place_low (DeltaFails k x) = omega arith
place_low (PhiFails k x) = omega arith

pub verdict_some : (set : ℕ) (t : Recorded) (rows : List Row) (high : ℕ) (w : Reason)
    → IsFirstReason set t rows 1 high (Some w) → IsVerdict set t rows (No w)
verdict_some set t rows high w h = (h.0, λ o s. h.1 o (place_low o) s)

-- the first if the condition holds, else the second
abbrev pub Either : Bool → Type 0 → Type 0 → Type 0
Either true P Q = P
Either false P Q = Q

-- what it takes to show P of all reasons with this place
abbrev pub AtPlace : (Reason → Type 0) → ℕ → Type 0
AtPlace P i =
    Either (i == 1) (P NoRows)
    (Either (i == 2) (P FirstNotOne)
    (Either (i == 3) ((k : ℕ) → P (NotRising k))
    (Either (i == 4) ((k : ℕ) → P (BeyondEnd k))
    (Either (i == 5) ((k : ℕ) → P (NotNonIncreasing k))
    (Either (i == 6) ((k : ℕ) → P (SameAsBefore k))
    (Either (i == 7) ((k : ℕ) → P (BadMiss k))
    (Either (i == 8) ((k : ℕ) → P (BadGap k))
    (Either (i == 9) ((k : ℕ) (x : Miss) → P (DeltaFails k x))
    ((k : ℕ) (x : Gap) → P (PhiFails k x))))))))))

at_place : (P : Reason → Type 0) (o : Reason) → AtPlace P (place_of o) → P o
at_place P NoRows h = h
at_place P FirstNotOne h = h
at_place P (NotRising k) h = h k
at_place P (BeyondEnd k) h = h k
at_place P (NotNonIncreasing k) h = h k
at_place P (SameAsBefore k) h = h k
at_place P (BadMiss k) h = h k
at_place P (BadGap k) h = h k
at_place P (DeltaFails k x) h = h k x
at_place P (PhiFails k x) h = h k x

-- no reason with this place holds
pub none_in : (set : ℕ) (t : Recorded) (rows : List Row) (i : ℕ)
    → AtPlace (λ o. ¬ Stands set t rows o) i → IsFirstReason set t rows i i None
none_in set t rows i none o low high s =
    let e : i ≡ place_of o = omega (arith, low, high) in
    at_place (λ w. ¬ Stands set t rows w) o (subst (λ (j : ℕ). AtPlace (λ w. ¬ Stands set t rows w) j) e none) s

-- of those with its place this reason is the first
pub first_in : (set : ℕ) (t : Recorded) (rows : List Row) (w : Reason) → Stands set t rows w
    → AtPlace (λ o. Stands set t rows o → row_of w ≤ row_of o) (place_of w) → IsFirstReason set t rows (place_of w) (place_of w) (Some w)
first_in set t rows w s least = (
  s,
  λ o low q. elim (cases_eq (place_of w) (place_of o)) [
    | inl e ↦ inr (
      e,
      at_place (λ v. Stands set t rows v → row_of w ≤ row_of v) o
          (subst (λ (j : ℕ). AtPlace (λ v. Stands set t rows v → row_of w ≤ row_of v) j) e least) q,
    )
    | inr e ↦ inl (omega (arith, low, e))
  ],
)

-- if none of the first six kinds holds, the rows are in order
pub AreInOrder-from_none : (set : ℕ) (t : Recorded) (rows : List Row) → IsFirstReason set t rows 1 6 None → AreInOrder rows t.last
AreInOrder-from_none set t rows none = record {
  rising = rising;
  start = λ k r e. elim (cases_eq k 1) [
    | inl h ↦ first r (subst (λ (i : ℕ). row_at rows i ≡ Some r) h e)
    | inr h ↦ (let w = row_at_within rows k r e in
        let one = row_at_next rows 0 no_row (omega (arith, w, h)) in
        let above = rising 1 k (get_or rows 0 no_row) r (omega (arith, w, h)) one e in
        omega (arith, above))
  ];
  end = λ k r e. elim (cases_lt t.last r.gst) [
    | inl l ↦ absurd (none (BeyondEnd k) (omega arith) (omega arith) (record { row = r; here = e }, l))
    | inr l ↦ l
  ];
} where
  next : (k : ℕ) (a b : Row) → row_at rows k ≡ Some a → row_at rows (suc k) ≡ Some b → a.gst < b.gst
  next k a b p q = elim (cases_lt a.gst b.gst) [
    | inl l ↦ l
    | inr l ↦ absurd (none (NotRising (suc k)) (omega arith) (omega arith) (two_rows rows k a b p q, l))
  ]

  rising : (j k : ℕ) (a b : Row) → j < k → row_at rows j ≡ Some a → row_at rows k ≡ Some b → a.gst < b.gst
  rising j k a b l p q = later_above rows j k a b (rising-from_next rows next) p q l

  first : (r : Row) → row_at rows 1 ≡ Some r → 1 ≤ r.gst
  first r e = elim (cases_eq r.gst 1) [
    | inl h ↦ omega (arith, h)
    | inr h ↦ absurd (none FirstNotOne (omega arith) (omega arith) (record { row = r; here = e }, h))
  ]

-- there are rows
pub some_rows : (set : ℕ) (t : Recorded) (rows : List Row) → (length rows ≡ 0 → ⊥) → IsFirstReason set t rows 1 1 None
some_rows set t rows some = none_in set t rows 1 (λ s. some (ap (λ (list : List Row). length list) s.0))

-- the first stabilization time is 1
pub first_is_one : (set : ℕ) (t : Recorded) (rows : List Row)
    → (length rows ≡ 0 → ⊥) → (get_or rows 0 no_row).gst ≡ 1 → IsFirstReason set t rows 1 2 None
first_is_one set t rows some one = first_after set t rows 1 1 2 2 None refl (some_rows set t rows some)
    (none_in set t rows 2 (λ s. s.1 (ap (λ (r : Row). r.gst) (row_at_same rows 0 s.0.row no_row s.0.here) ∙ one)))
