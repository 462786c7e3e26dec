-- What is kept of claimed rows settles their verdict.
use Rattle.std.proofs.Common.{ℕ, Bool, true, false, ◌==◌, ◌≡◌, ◌≢◌, ◌+◌, ◌-◌, ◌<◌, ◌≤◌, ◌⊎◌, inl, inr, List, [], ◌∷◌}
use Rattle.std.proofs.Common.{◌++◌, length, get_or, cond, Some, None, refl, ap, sym, subst, ◌∙◌, suc, zero}
use Rattle.std.proofs.Common.{append_assoc, arith}
use Rattle.std.specs.Prelude.{nat_le, nat_lt}
use Rattle.std.specs.Option.{option_map_or}
use Rattle.std.proofs.lemmas.Bool.{eqb-true}
use Rattle.std.proofs.lemmas.Bool.Decides.{nat_tests}
use Rattle.std.proofs.lemmas.List.{append-nil, length-append}
use Rattle.std.proofs.lemmas.Option.{none-some}
use Rattle.step_trace.proofs.ReportRows.{row_at_within}
use Rattle.certificate_checker.proofs.Common.{Row, Recorded, Reason, FirstNotOne, NotRising, BeyondEnd, No, row_at}
use Rattle.certificate_checker.proofs.Common.{IsFirst, IsFirstReason, HasRow, HasTwoRows, IsVerdict}
use Rattle.certificate_checker.proofs.Common.{slice_get-push_cases, slice_get-push_old, slice_get-last}
use Rattle.certificate_checker.specs.declared.claims.ClaimedRows.{ClaimedRows}
use Rattle.certificate_checker.specs.declared.claims.ClaimedRows.TheVariants.{InOrder, Beyond, Refuted}
use Rattle.certificate_checker.specs.Claims.{claimed, count_of, last_gst, next_beyond, next_in_order, risen, with_row, with_rows}
use Rattle.certificate_checker.proofs.ReasonOrder.{first_after, first_in, none_in, some_rows, verdict_some}
use Rattle.certificate_checker.proofs.RowSearches.{no_row, row_at_next}

-- row k doesn't begin after the row before it
abbrev IsNotRising : List Row → ℕ → Type 0
IsNotRising rows k = (a : HasTwoRows rows k) × (a.row.gst ≤ a.before.gst)

-- row k begins after the last tick
abbrev IsBeyond : ℕ → List Row → ℕ → Type 0
IsBeyond last rows k = (a : HasRow rows k) × (last < a.row.gst)

-- the first row, if there is one, begins at tick 1
abbrev BeginAtOne : List Row → Type 0
BeginAtOne rows = (r : Row) → row_at rows 1 ≡ Some r → r.gst ≡ 1

-- The rows begin at tick 1, and each after the one before it.
record RiseFromOne (rows : List Row) : Type 0 where
  begin : BeginAtOne rows
  rising : (k : ℕ) → ¬ IsNotRising rows k

-- the reason holds, and none comes before it
abbrev IsSettled : List Row → Reason → Type 0
IsSettled rows FirstNotOne = (a : HasRow rows 1) × (a.row.gst ≢ 1)
IsSettled rows (NotRising k) = BeginAtOne rows × IsFirst (IsNotRising rows) (Some k)
IsSettled rows why = ⊥

-- what is kept of rows describes them
abbrev Tells : ℕ → ClaimedRows → List Row → Type 0
Tells last (InOrder kept) rows = (kept ≡ rows) × RiseFromOne rows × ((k : ℕ) → ¬ IsBeyond last rows k)
Tells last (Beyond first count gst) rows = (count ≡ length rows)
    × (1 ≤ count) × (gst ≡ last_gst rows) × RiseFromOne rows × IsFirst (IsBeyond last rows) (Some first)
Tells last (Refuted why count) rows = (count ≡ length rows) × (1 ≤ count) × IsSettled rows why

-- a row of rows with one more is one of them, or the new one
row_at-push : (rows : List Row) (new x : Row) (k : ℕ)
    → row_at (rows ++ new ∷ []) k ≡ Some x → (row_at rows k ≡ Some x) ⊎ ((k ≡ length rows + 1) × (new ≡ x))
row_at-push rows new x zero e = absurd (none-some x e)
row_at-push rows new x (suc k) e = elim (slice_get-push_cases rows new x k e) [
  | inl h ↦ inl h
  | inr h ↦ (let at = h.0 in inr (omega (arith, at), h.1))
]

row_at-push-kept : (rows : List Row) (new x : Row) (k : ℕ) → row_at rows k ≡ Some x → row_at (rows ++ new ∷ []) k ≡ Some x
row_at-push-kept rows new x zero e = absurd (none-some x e)
row_at-push-kept rows new x (suc k) e = slice_get-push_old rows new x k e

row_at-push-new : (rows : List Row) (new : Row) → row_at (rows ++ new ∷ []) (length rows + 1) ≡ Some new
row_at-push-new rows new = let e : length rows + 1 ≡ suc (length rows) = omega arith in rw e (slice_get-last rows new)

-- the stabilization time of the last row
last_gst-at : (rows : List Row) (r : Row) → row_at rows (length rows) ≡ Some r → last_gst rows ≡ r.gst
last_gst-at rows r e = ap (λ o. option_map_or (λ (x : Row). x.gst) o 0) e

last_gst-push : (rows : List Row) (new : Row) → last_gst (rows ++ new ∷ []) ≡ new.gst
last_gst-push rows new = last_gst-at (rows ++ new ∷ []) new (rw (length-append rows (new ∷ [])) (row_at-push-new rows new))

-- with one row more, what held of a row holds
beyond-kept : (last : ℕ) (rows : List Row) (new : Row) (k : ℕ) → IsBeyond last rows k → IsBeyond last (rows ++ new ∷ []) k
beyond-kept last rows new k h = (record { row = h.0.row; here = row_at-push-kept rows new h.0.row k h.0.here }, h.1)

beyond-cases : (last : ℕ) (rows : List Row) (new : Row) (k : ℕ)
    → IsBeyond last (rows ++ new ∷ []) k → IsBeyond last rows k ⊎ ((k ≡ length rows + 1) × (last < new.gst))
beyond-cases last rows new k h = elim (row_at-push rows new h.0.row k h.0.here) [
  | inl old ↦ inl (record { row = h.0.row; here = old }, h.1)
  | inr at ↦ inr (at.0, subst (λ (r : Row). last < r.gst) (sym at.1) h.1)
]

not_rising-kept : (rows : List Row) (new : Row) (k : ℕ) → IsNotRising rows k → IsNotRising (rows ++ new ∷ []) k
not_rising-kept rows new k h = (
  record {
    before = h.0.before;
    row = h.0.row;
    there = row_at-push-kept rows new h.0.before (k - 1) h.0.there;
    here = row_at-push-kept rows new h.0.row k h.0.here;
  },
  h.1,
)

not_rising-cases : (rows : List Row) (new : Row) (k : ℕ)
    → IsNotRising (rows ++ new ∷ []) k → IsNotRising rows k ⊎ ((k ≡ length rows + 1) × (0 < length rows) × (new.gst ≤ last_gst rows))
not_rising-cases rows new k h = elim (row_at-push rows new h.0.row k h.0.here) [
  | inl old ↦ (let within = row_at_within rows k h.0.row old in elim (row_at-push rows new h.0.before (k - 1) h.0.there) [
    | inl there ↦ inl (record { before = h.0.before; row = h.0.row; there = there; here = old }, h.1)
    | inr at ↦ (let after = at.0 in absurd (omega (arith, after, within.1)))
  ])
  | inr at ↦ (let k_at = at.0 in elim (row_at-push rows new h.0.before (k - 1) h.0.there) [
    | inl there ↦ (
        let within = row_at_within rows (k - 1) h.0.before there in
        let back : k - 1 ≡ length rows = omega (arith, k_at) in
        let gst = last_gst-at rows h.0.before (subst (λ (i : ℕ). row_at rows i ≡ Some h.0.before) back there) in
        let fall = subst (λ (r : Row). r.gst ≤ (h.0).before.gst) (sym at.1) h.1 in
        inr (k_at, omega (arith, within.0, back), omega (arith, gst, fall)))
    | inr last ↦ (let after = last.0 in absurd (omega (arith, after, k_at)))
  ])
]

-- if there is a last row it is read
last_row : (rows : List Row) → 0 < length rows → row_at rows (length rows) ≡ Some (get_or rows (length rows - 1) no_row)
last_row rows some =
    let e : length rows - 1 + 1 ≡ length rows = omega (arith, some) in
    subst (λ (i : ℕ). row_at rows i ≡ Some (get_or rows (length rows - 1) no_row)) e
    (row_at_next rows (length rows - 1) no_row (omega (arith, some)))

-- the new row doesn't rise if it isn't above the last
not_rising-new : (rows : List Row) (new : Row) → 0 < length rows
    → new.gst ≤ last_gst rows → IsNotRising (rows ++ new ∷ []) (length rows + 1)
not_rising-new rows new some fall =
    let there = last_row rows some in
    let back : length rows + 1 - 1 ≡ length rows = omega arith in
    let gst = last_gst-at rows (get_or rows (length rows - 1) no_row) there in (
      record {
        before = get_or rows (length rows - 1) no_row;
        row = new;
        there = rw back (row_at-push-kept rows new (get_or rows (length rows - 1) no_row) (length rows) there);
        here = row_at-push-new rows new;
      },
      omega (arith, gst, fall),
    )

-- the first number of which something is so stays the first, if it is so of none but it and a later one more
first-kept : (P Q : ℕ → Type 0) (k n : ℕ) → k ≤ n → ((j : ℕ) → P j → Q j)
    → ((j : ℕ) → Q j → P j ⊎ (n ≤ j)) → IsFirst P (Some k) → IsFirst Q (Some k)
first-kept P Q k n l kept cases h = (
  kept k h.0,
  λ j q. elim (cases j q) [
    | inl p ↦ h.1 j p
    | inr later ↦ omega (arith, later, l)
  ],
)

-- rows that begin at tick 1, with one more
begin-more : (rows : List Row) (new : Row) → BeginAtOne rows → (length rows ≡ 0 → new.gst ≡ 1) → BeginAtOne (rows ++ new ∷ [])
begin-more rows new begin one r e = elim (row_at-push rows new r 1 e) [
  | inl old ↦ begin r old
  | inr at ↦ (let here = at.0 in let gst = one (omega (arith, here)) in subst (λ (x : Row). x.gst ≡ 1) at.1 gst)
]

-- rows that rise, with one more that rises
rise-more : (rows : List Row) (new : Row) → RiseFromOne rows
    → (length rows ≡ 0 → new.gst ≡ 1) → (0 < length rows → last_gst rows < new.gst) → RiseFromOne (rows ++ new ∷ [])
rise-more rows new rise one above = record {
  begin = begin-more rows new rise.begin one;
  rising = λ k h. elim (not_rising-cases rows new k h) [
    | inl old ↦ rise.rising k old
    | inr at ↦ (let some = at.1 in let fall = at.2 in let l = above some in omega (arith, l, fall))
  ];
}

-- no row of these and of one more is beyond the last tick
within-more : (last : ℕ) (rows : List Row) (new : Row)
    → ((k : ℕ) → ¬ IsBeyond last rows k) → new.gst ≤ last → (k : ℕ) → ¬ IsBeyond last (rows ++ new ∷ []) k
within-more last rows new none l k h = elim (beyond-cases last rows new k h) [
  | inl old ↦ none k old
  | inr at ↦ (let above = at.1 in omega (arith, l, above))
]

-- the new row is the first beyond it
beyond-new : (last : ℕ) (rows : List Row) (new : Row)
    → ((k : ℕ) → ¬ IsBeyond last rows k) → last < new.gst → IsFirst (IsBeyond last (rows ++ new ∷ [])) (Some (length rows + 1))
beyond-new last rows new none l = (
  (record { row = new; here = row_at-push-new rows new }, l),
  λ k h. elim (beyond-cases last rows new k h) [
    | inl old ↦ absurd (none k old)
    | inr at ↦ (let e = at.0 in omega (arith, e))
  ],
)

-- or it stays the first
beyond-more : (last : ℕ) (rows : List Row) (new : Row) (k : ℕ)
    → IsFirst (IsBeyond last rows) (Some k) → IsFirst (IsBeyond last (rows ++ new ∷ [])) (Some k)
beyond-more last rows new k h =
    let within = row_at_within rows k h.0.0.row h.0.0.here in
    first-kept (IsBeyond last rows) (IsBeyond last (rows ++ new ∷ [])) k
    (length rows + 1) (omega (arith, within.1)) (beyond-kept last rows new)
    (λ j b. elim (beyond-cases last rows new j b) [ inl old ↦ inl old | inr at ↦ inr (let e = at.0 in omega (arith, e)) ]) h

-- the new row is the first that doesn't rise
fall-new : (rows : List Row) (new : Row) → ((k : ℕ) → ¬ IsNotRising rows k)
    → 0 < length rows → new.gst ≤ last_gst rows → IsFirst (IsNotRising (rows ++ new ∷ [])) (Some (length rows + 1))
fall-new rows new rising some fall = (
  not_rising-new rows new some fall,
  λ k h. elim (not_rising-cases rows new k h) [
    | inl old ↦ absurd (rising k old)
    | inr at ↦ (let e = at.0 in omega (arith, e))
  ],
)

-- what settles the verdict goes on to settle it
settled-more : (rows : List Row) (new : Row) (why : Reason) → 0 < length rows → IsSettled rows why → IsSettled (rows ++ new ∷ []) why
settled-more rows new FirstNotOne some h = (record { row = h.0.row; here = row_at-push-kept rows new h.0.row 1 h.0.here }, h.1)
settled-more rows new (NotRising k) some h =
    let there = row_at_within rows k h.1.0.0.row h.1.0.0.here in (
      begin-more rows new h.0 (λ none. absurd (omega (arith, none, some))),
      first-kept (IsNotRising rows) (IsNotRising (rows ++ new ∷ [])) k (length rows + 1) (omega (arith, there.1)) (not_rising-kept rows new)
          (λ j n. elim (not_rising-cases rows new j n) [ inl old ↦ inl old | inr at ↦ inr (let e = at.0 in omega (arith, e)) ]) h.1,
    )
settled-more rows new why some h = absurd h

-- how many rows there are with one more
one-more : (rows : List Row) (new : Row) → length rows + 1 ≡ length (rows ++ new ∷ [])
one-more rows new = sym (length-append rows (new ∷ []))

-- a row that rises
risen-one : (rows : List Row) (new : Row) → risen rows new ≡ true → length rows ≡ 0 → new.gst ≡ 1
risen-one rows new h e = let one : (new.gst == 1) ≡ true = rw e at h in eqb-true new.gst 1 one

risen-above : (rows : List Row) (new : Row) → risen rows new ≡ true → 0 < length rows → last_gst rows < new.gst
risen-above rows new h some = let other : (length rows == 0) ≡ false = grind (arith, nat_tests) in
    let above = rw other at h in grind (arith, nat_tests)

-- one that doesn't
fallen-one : (rows : List Row) (new : Row) → risen rows new ≡ false → length rows ≡ 0 → new.gst ≢ 1
fallen-one rows new h e = λ one. (let other : (new.gst == 1) ≡ false = rw e at h in grind (arith, nat_tests))

fallen-above : (rows : List Row) (new : Row) → risen rows new ≡ false → 0 < length rows → new.gst ≤ last_gst rows
fallen-above rows new h some = let other : (length rows == 0) ≡ false = grind (arith, nat_tests) in
    let above = rw other at h in grind (arith, nat_tests)

-- what is kept of rows in order describes them with one more
in_order-on : (last : ℕ) (rows : List Row) (new : Row)
    → RiseFromOne rows → ((k : ℕ) → ¬ IsBeyond last rows k) → Tells last (next_in_order last rows new) (rows ++ new ∷ [])
in_order-on last rows new rise none = go (length rows == 0) refl (risen rows new) refl (nat_le new.gst last) refl where
  go : (z : Bool) → (length rows == 0) ≡ z → (u : Bool) → risen rows new ≡ u → (w : Bool) → nat_le new.gst last ≡ w
      → Tells last (cond u (cond w (InOrder (rows ++ new ∷ [])) (Beyond (length rows + 1) (length rows + 1) new.gst))
      (Refuted (cond z FirstNotOne (NotRising (length rows + 1))) (length rows + 1))) (rows ++ new ∷ [])
  go z a true b true c = (
    refl,
    rise-more rows new rise (risen-one rows new b) (risen-above rows new b),
    within-more last rows new none (grind (arith, nat_tests)),
  )
  go z a true b false c = (
    one-more rows new,
    omega arith,
    sym (last_gst-push rows new),
    rise-more rows new rise (risen-one rows new b) (risen-above rows new b),
    beyond-new last rows new none (grind (arith, nat_tests)),
  )
  go true a false b w c =
      let empty = eqb-true (length rows) 0 a in
      let first : length rows + 1 ≡ 1 = omega (arith, empty) in (
        one-more rows new,
        omega arith,
        (
          record {
            row = new;
            here = subst (λ (i : ℕ). row_at (rows ++ new ∷ []) i ≡ Some new) first (row_at-push-new rows new);
          },
          fallen-one rows new b empty,
        ),
      )
  go false a false b w c =
      let some : 0 < length rows = grind (arith, nat_tests) in (
        one-more rows new,
        omega arith,
        (
          begin-more rows new rise.begin (λ empty. absurd (omega (arith, empty, some))),
          fall-new rows new rise.rising some (fallen-above rows new b some),
        ),
      )

-- of rows beyond the last tick likewise
beyond-on : (last first : ℕ) (rows : List Row) (new : Row) → 1 ≤ length rows → RiseFromOne rows → IsFirst (IsBeyond last rows) (Some first)
    → Tells last (next_beyond first (length rows + 1) (last_gst rows) new) (rows ++ new ∷ [])
beyond-on last first rows new some rise beyond = go (nat_lt (last_gst rows) new.gst) refl where
  go : (u : Bool) → nat_lt (last_gst rows) new.gst ≡ u → Tells last
      (cond u (Beyond first (length rows + 1) new.gst) (Refuted (NotRising (length rows + 1)) (length rows + 1))) (rows ++ new ∷ [])
  go true b = (
    one-more rows new,
    omega arith,
    sym (last_gst-push rows new),
    rise-more rows new rise
        (λ empty. absurd (omega (arith, empty, some))) (λ l. grind (arith, nat_tests)),
    beyond-more last rows new first beyond,
  )
  go false b = (
    one-more rows new,
    omega arith,
    (
      begin-more rows new rise.begin (λ empty. absurd (omega (arith, empty, some))),
      fall-new rows new rise.rising (omega (arith, some)) (grind (arith, nat_tests)),
    ),
  )

tells_on : (last : ℕ) (kept : ClaimedRows) (rows : List Row) (new : Row)
    → Tells last kept rows → Tells last (with_row last kept new) (rows ++ new ∷ [])
tells_on last (InOrder kept) rows new h = rw h.0 (in_order-on last rows new h.1 h.2)
tells_on last (Beyond first count gst) rows new h =
    let some = h.1 in let size = h.0 in rw (h.0, h.2) (beyond-on last first rows new (omega (arith, some, size)) h.3 h.4)
tells_on last (Refuted why count) rows new h = let some = h.1 in let size = h.0 in
    (ap (λ (n : ℕ). n + 1) h.0 ∙ one-more rows new, omega arith, settled-more rows new why (omega (arith, some, size)) h.2)

tells_more : (last : ℕ) (kept : ClaimedRows) (rows more : List Row)
    → Tells last kept rows → Tells last (with_rows last kept more) (rows ++ more)
tells_more last kept rows [] h = subst (λ (list : List Row). Tells last kept list) (sym (append-nil rows)) h
tells_more last kept rows (row ∷ more) h =
    subst (λ (list : List Row). Tells last (with_rows last (with_row last kept row) more) list) (append_assoc rows (row ∷ []) more)
    (tells_more last (with_row last kept row) (rows ++ row ∷ []) more (tells_on last kept rows row h))

tells_claimed : (last : ℕ) (rows : List Row) → Tells last (claimed last rows) rows
tells_claimed last rows = tells_more last (InOrder [])
    [] rows (refl, record { begin = λ r e. absurd (none-some r e); rising = none-rises }, none-beyond) where
      none-rises : (k : ℕ) → ¬ IsNotRising [] k
      none-rises k h = let w = row_at_within [] k h.0.row h.0.here in omega (arith, w)

      none-beyond : (k : ℕ) → ¬ IsBeyond last [] k
      none-beyond k h = let w = row_at_within [] k h.0.row h.0.here in omega (arith, w)

-- rows that are kept are those that were claimed
pub claimed-in_order : (last : ℕ) (kept rows : List Row) → InOrder kept ≡ claimed last rows → kept ≡ rows
claimed-in_order last kept rows e =
    let h : Tells last (InOrder kept) rows = subst (λ (c : ClaimedRows). Tells last c rows) (sym e) (tells_claimed last rows) in h.0

-- as many are counted
pub claimed-count : (last : ℕ) (rows : List Row) → count_of (claimed last rows) ≡ length rows
claimed-count last rows = go (claimed last rows) (tells_claimed last rows) where
  go : (kept : ClaimedRows) → Tells last kept rows → count_of kept ≡ length rows
  go (InOrder kept) h = ap (λ (list : List Row). length list) h.0
  go (Beyond first count gst) h = h.0
  go (Refuted why count) h = h.0

-- one more row is claimed after the others
pub claimed-push : (last : ℕ) (rows : List Row) (new : Row) → claimed last (rows ++ new ∷ []) ≡ with_row last (claimed last rows) new
claimed-push last rows new = go (InOrder []) rows where
  go : (kept : ClaimedRows) (list : List Row) → with_rows last kept (list ++ new ∷ []) ≡ with_row last (with_rows last kept list) new
  go kept [] = refl
  go kept (row ∷ list) = go (with_row last kept row) list

-- rows that begin at tick 1 have none of the first two reasons against them
begin_none : (set : ℕ) (t : Recorded) (rows : List Row) → 0 < length rows → BeginAtOne rows → IsFirstReason set t rows 1 2 None
begin_none set t rows some begin = first_after set t rows 1 1 2 2 None refl
    (some_rows set t rows (λ e. omega (arith, e, some))) (none_in set t rows 2 (λ s. s.1 (begin s.0.row s.0.here)))

-- and rows that rise have none of the first three
rise_none : (set : ℕ) (t : Recorded) (rows : List Row) → 0 < length rows → RiseFromOne rows → IsFirstReason set t rows 1 3 None
rise_none set t rows some rise = first_after set t rows 1 2 3 3 None refl
    (begin_none set t rows some rise.begin) (none_in set t rows 3 rise.rising)

-- the verdict on rows that go beyond the last tick
pub claimed-beyond : (set : ℕ) (t : Recorded) (rows : List Row) (first count gst : ℕ)
    → Beyond first count gst ≡ claimed t.last rows → IsVerdict set t rows (No (BeyondEnd first))
claimed-beyond set t rows first count gst e =
    let h : Tells t.last (Beyond first count gst) rows =
    subst (λ (c : ClaimedRows). Tells t.last c rows) (sym e) (tells_claimed t.last rows) in
    let size = h.0 in let some = h.1 in
    verdict_some set t rows 4 (BeyondEnd first)
    (first_after set t rows 1 3 4 4 (Some (BeyondEnd first)) refl (rise_none set t rows (omega (arith, size, some)) h.3)
    (first_in set t rows (BeyondEnd first) h.4.0 h.4.1))

-- and on rows that are refuted
pub claimed-refuted : (set : ℕ) (t : Recorded) (rows : List Row) (why : Reason) (count : ℕ)
    → Refuted why count ≡ claimed t.last rows → IsVerdict set t rows (No why)
claimed-refuted set t rows why count e =
    let h : Tells t.last (Refuted why count) rows = subst (λ (c : ClaimedRows). Tells t.last c rows) (sym e) (tells_claimed t.last rows) in
    let size = h.0 in let some = h.1 in go why (omega (arith, size, some)) h.2
  where
    go : (why : Reason) → 0 < length rows → IsSettled rows why → IsVerdict set t rows (No why)
    go FirstNotOne some h = verdict_some set t rows 2 FirstNotOne (first_after set t rows 1 1 2 2
        (Some FirstNotOne) refl (some_rows set t rows (λ e. omega (arith, e, some))) (first_in set t rows FirstNotOne h (λ s. omega arith)))
    go (NotRising k) some h = verdict_some set t rows 3 (NotRising k) (first_after set t rows 1 2 3 3
        (Some (NotRising k)) refl (begin_none set t rows some h.0) (first_in set t rows (NotRising k) h.1.0 h.1.1))
    go why some h = absurd h
