-- Rows in order: their stretches cover every tick of the trace, each once.
use Rattle.std.proofs.Common.{ℕ, ◌≡◌, ◌+◌, ◌-◌, ◌<◌, ◌≤◌, ◌⊎◌, inl, inr, List, map, get_or, Option, Some, None, refl, ap, sym, ◌∙◌, subst, suc, zero, arith}
use Rattle.std.specs.Option.{option_map_or}
use Rattle.std.specs.List.Sorted.{IsStrictlyIncreasing}
use Rattle.std.proofs.lemmas.Bool.{cases_lt, cases_eq}
use Rattle.std.proofs.lemmas.Option.{none-some, same_Some, slice_get_within, slice_get-get_or}
use Rattle.certificate_checker.proofs.Common.{Row, row_at, after_stretch, Serves}
use Rattle.certificate_checker.proofs.RowPlaces.{later_above}

-- there are rows if there are ticks; they begin in tick 1, rise, and begin in ticks of the trace
pub record AreInOrder (last : ℕ) (rows : List Row) : Type 0 where
  pub some : 1 ≤ last → (r : Row) × (row_at rows 1 ≡ Some r)
  pub first : (r : Row) → row_at rows 1 ≡ Some r → r.gst ≡ 1
  pub rising : IsStrictlyIncreasing (map (λ r. r.gst) rows)
  pub end : (k : ℕ) (r : Row) → row_at rows k ≡ Some r → r.gst ≤ last

-- a stretch ends where the next row begins, or at the last tick
after_cases : (rows : List Row) (last k : ℕ)
    → ((b : Row) × (row_at rows (suc k) ≡ Some b) × (after_stretch rows last k ≡ b.gst))
    ⊎ ((row_at rows (suc k) ≡ None) × (after_stretch rows last k ≡ last + 1))
after_cases rows last k = go (row_at rows (suc k)) refl where
  go : (o : Option Row) → row_at rows (suc k) ≡ o
      → ((b : Row) × (row_at rows (suc k) ≡ Some b) × (after_stretch rows last k ≡ b.gst))
      ⊎ ((row_at rows (suc k) ≡ None) × (after_stretch rows last k ≡ last + 1))
  go None e = inr (e, ap (λ o. option_map_or (λ (r : Row). r.gst) o (last + 1)) e)
  go (Some b) e = inl (b, e, ap (λ o. option_map_or (λ (r : Row). r.gst) o (last + 1)) e)

-- a row begins in its own stretch
pub begins_within : (rows : List Row) (last k : ℕ) (r : Row) → AreInOrder last rows → row_at rows k ≡ Some r → Serves rows last k r r.gst
begins_within rows last k r order here = record {
  row = here;
  from = omega arith;
  until = elim (after_cases rows last k) [
    | inl (b, next, e) ↦ (let l = later_above rows k (suc k) r b order.rising here next (omega arith) in omega (arith, l, e))
    | inr (none, e) ↦ (let l = order.end k r here in omega (arith, l, e))
  ];
}

-- the stretches lie in the trace
pub served_within : (rows : List Row) (last k : ℕ) (r : Row) (g : ℕ) → AreInOrder last rows → Serves rows last k r g → g ≤ last
served_within rows last k r g order serves = elim (after_cases rows last k) [
  | inl (b, next, e) ↦ (let l = order.end (suc k) b next in let u = serves.until in omega (arith, l, u, e))
  | inr (none, e) ↦ (let u = serves.until in omega (arith, u, e))
]

-- for each tick of the trace there is a row that applies
pub serving_row : (rows : List Row) (last g : ℕ) → AreInOrder last rows → 1 ≤ g → g ≤ last → (k : ℕ) × (r : Row) × Serves rows last k r g
serving_row rows last zero order start end = absurd (omega (arith, start))
serving_row rows last (suc zero) order start end =
    let first = order.some end in
    (1, first.0, subst (Serves rows last 1 first.0) (order.first first.0 first.1) (begins_within rows last 1 first.0 order first.1))
serving_row rows last (suc (suc n)) order start end = more (serving_row rows last (suc n) order (omega arith) (omega (arith, end))) where
  more : ((k : ℕ) × (r : Row) × Serves rows last k r (suc n)) → (k : ℕ) × (r : Row) × Serves rows last k r (suc (suc n))
  more (k, r, serves) = elim (cases_lt (suc (suc n)) (after_stretch rows last k)) [
    | inl l ↦ (k, r, record { row = serves.row; from = let f = serves.from in omega (arith, f); until = l })
    | inr m ↦ elim (after_cases rows last k) [
      | inr (none, e) ↦ absurd (omega (arith, m, e, end))
      | inl (b, next, e) ↦ (
          let here : b.gst ≡ suc (suc n) = omega (arith, m, e, serves.until) in
          (suc k, b, subst (Serves rows last (suc k) b) here (begins_within rows last (suc k) b order next)))
    ]
  ]

-- the tick before a row, which isn't the first, lies in the stretch of the row before
pub serves_before : (rows : List Row) (last k : ℕ) (b r : Row)
    → AreInOrder last rows → row_at rows k ≡ Some b → row_at rows (suc k) ≡ Some r → Serves rows last k b (r.gst - 1)
serves_before rows last k b r order there here =
    let l = later_above rows k (suc k) b r order.rising there here (omega arith) in
    record {
      row = there;
      from = omega (arith, l);
      until = elim (after_cases rows last k) [
        | inl (c, next, e) ↦ (let same = ap (λ (x : Row). x.gst) (same_Some c r (sym next ∙ here)) in omega (arith, e, same, l))
        | inr (none, e) ↦ absurd (none-some r (sym none ∙ here))
      ];
    }

-- a row has a number from 1 on, and up to a row's number there are rows
row_up_to : (rows : List Row) (j k : ℕ) (r : Row) → row_at rows k ≡ Some r → suc j ≤ k → (b : Row) × (row_at rows (suc j) ≡ Some b)
row_up_to rows j zero r e l = absurd (omega (arith, l))
row_up_to rows j (suc k) r e l = let within = slice_get_within rows k r e in
    (get_or rows j r, slice_get-get_or rows j r (omega (arith, within, l)))

-- no row begins within the stretch of another
pub begins_outside : (rows : List Row) (last j k : ℕ) (a b : Row)
    → AreInOrder last rows → row_at rows j ≡ Some a → row_at rows k ≡ Some b → a.gst < b.gst → b.gst < after_stretch rows last j → ⊥
begins_outside rows last j k a b order p q above below = elim (cases_lt j k) [
  | inr m ↦ elim (cases_eq j k) [
    | inl e ↦ (let same = ap (λ (x : Row). x.gst) (same_Some a b (sym p ∙ ap (row_at rows) e ∙ q)) in absurd (omega (arith, same, above)))
    | inr d ↦ (let l = later_above rows k j b a order.rising q p (omega (arith, m, d)) in absurd (omega (arith, l, above)))
  ]
  | inl later ↦ elim (after_cases rows last j) [
    | inr (none, e) ↦ (let next = row_up_to rows j k b q (omega (arith, later)) in none-some next.0 (sym none ∙ next.1))
    | inl (c, next, e) ↦ elim (cases_eq (suc j) k) [
      | inl same ↦ (let gst = ap (λ (x : Row). x.gst) (same_Some c b (sym next ∙ ap (row_at rows) same ∙ q)) in
          absurd (omega (arith, gst, e, below)))
      | inr d ↦ (let l = later_above rows (suc j) k c b order.rising next q (omega (arith, later, d)) in
          absurd (omega (arith, l, e, below)))
    ]
  ]
]
