-- Comparisons of rows by their room.
use Rattle.std.proofs.Common.{ℕ, ◌≡◌, ◌+◌, ◌*◌, ◌<◌, ◌≤◌, List, [], ◌∷◌, length, get_or, All, Some, inl, inr, refl, sym, subst, ◌∙◌, arith}
use Rattle.std.specs.Prelude.{◌≢◌, slice_get}
use Rattle.std.proofs.lemmas.Bool.{cases_lt}
use Rattle.std.proofs.lemmas.Option.{same_Some, get_or_from_slice_get, slice_get-get_or}
use Rattle.std.proofs.Math.Nat.{mul-le-mul_right, mul_right_comm, lt_of_mul-lt-mul_right, one-le-mul}
use Rattle.step_trace.specs.declared.rows.Row.{Row}
use Rattle.run_story.specs.CalmRows.{FitsIn, IsCalmer, IsCalmBelow, rest, square}

-- a / b ≤ c / d and c / d < e / f give a / b < e / f
crossed : (a b c d e f : ℕ) → a * d ≤ c * b → c * f < e * d → 1 ≤ b → a * f < e * b
crossed a b c d e f low high some =
    let one : a * d * f ≤ c * b * f = mul-le-mul_right f low in
    let two : (c * f + 1) * b ≤ e * d * b = mul-le-mul_right b (omega arith) in
    let open_ : (c * f + 1) * b ≡ c * f * b + b = grind arith in
    let left : a * d * f ≡ a * f * d = mul_right_comm a d f in
    let middle : c * b * f ≡ c * f * b = mul_right_comm c b f in
    let right : e * d * b ≡ e * b * d = mul_right_comm e d b in
    lt_of_mul-lt-mul_right d (omega (arith, one, two, open_, left, middle, right, some))

-- what is calmer than a row is calmer than each row that isn't calmer than it
calmer-than_less : (last : ℕ) (o row n : Row) → FitsIn last o → ¬ IsCalmer last o row → IsCalmer last n row → IsCalmer last n o
calmer-than_less last o row n fits not_calmer calmer =
    let some : 1 ≤ o.delta * o.phi = one-le-mul fits.delta_low fits.phi_low in
    crossed (square (rest last o)) (o.delta * o.phi) (square (rest last row)) (row.delta * row.phi) (square (rest last n)) (n.delta * n.phi)
    (elim (cases_lt (square (rest last row) * (o.delta * o.phi)) (square (rest last o) * (row.delta * row.phi))) [
      | inl l ↦ absurd (not_calmer l)
      | inr m ↦ m
    ])
    calmer some

-- no row is calmer than itself
not_calmer-itself : (last : ℕ) (r : Row) → ¬ IsCalmer last r r
not_calmer-itself last r l = omega (arith, l)

-- the first row is the calmest of one
first_only : (last : ℕ) (rows : List Row) (r : Row) → slice_get rows 0 ≡ Some r → IsCalmBelow last rows 1 0
first_only last rows r stands = record {
  row = r;
  stands = stands;
  below = omega arith;
  calmest = λ j o l is. let zero_ : j ≡ 0 = omega arith in
      let same : r ≡ o = same_Some r o (sym stands ∙ subst (λ (i : ℕ). slice_get rows i ≡ Some o) zero_ is) in
      subst (λ (x : Row). ¬ IsCalmer last x r) same (not_calmer-itself last r);
  first = λ j o l is. absurd (let n : j < 0 = l in omega arith);
}

pub calm_below-first : (last : ℕ) (rows : List Row) → (rows ≢ []) → IsCalmBelow last rows 1 0
calm_below-first last [] some = absurd (some refl)
calm_below-first last (r ∷ rest) some = first_only last (r ∷ rest) r refl

-- a further row that isn't calmer leaves the calm one
pub calm_below-kept : (last : ℕ) (rows : List Row) (n k : ℕ) (d e : Row) → IsCalmBelow last rows n k → n < length rows
    → ¬ IsCalmer last (get_or rows n d) (get_or rows k e) → IsCalmBelow last rows (n + 1) k
calm_below-kept last rows n k d e known inside not_calmer = record {
  row = known.row;
  stands = known.stands;
  below = (let below = known.below in omega arith);
  calmest = λ j o l at. elim (cases_lt j n) [
    | inl before ↦ known.calmest j o before at
    | inr after ↦ (let here : j ≡ n = omega arith in
        let same : get_or rows n d ≡ o = get_or_from_slice_get rows n o d (subst (λ (i : ℕ). slice_get rows i ≡ Some o) here at) in
        let own : get_or rows k e ≡ known.row = get_or_from_slice_get rows k known.row e known.stands in
        subst (λ (x : Row). ¬ IsCalmer last o x) own (subst (λ (x : Row). ¬ IsCalmer last x (get_or rows k e)) same not_calmer))
  ];
  first = known.first;
}

-- a calmer one is the calm one
pub calm_below-next : (last : ℕ) (rows : List Row) (n k : ℕ) (d e : Row) → All (FitsIn last) rows
    → IsCalmBelow last rows n k → n < length rows → IsCalmer last (get_or rows n d) (get_or rows k e) → IsCalmBelow last rows (n + 1) n
calm_below-next last rows n k d e fit known inside calmer =
    let next = get_or rows n d in
    let own : get_or rows k e ≡ known.row = get_or_from_slice_get rows k known.row e known.stands in
    let than : IsCalmer last next known.row = subst (λ (x : Row). IsCalmer last next x) own calmer in
    let above = λ (j : ℕ) (o : Row) (before : j < n) (at : slice_get rows j ≡ Some o).
    let fits : FitsIn last o = subst (FitsIn last) (get_or_from_slice_get rows j o d at) (fit j d (omega arith)) in
    calmer-than_less last o known.row next fits (known.calmest j o before at) than in
    record {
      row = next;
      stands = slice_get-get_or rows n d inside;
      below = omega arith;
      calmest = λ j o l at. elim (cases_lt j n) [
        | inl before ↦ (λ more. let less = above j o before at in omega (arith, more, less))
        | inr after ↦ (let here : j ≡ n = omega arith in
            let same : next ≡ o = get_or_from_slice_get rows n o d (subst (λ (i : ℕ). slice_get rows i ≡ Some o) here at) in
            subst (λ (x : Row). ¬ IsCalmer last x next) same (not_calmer-itself last next))
      ];
      first = λ j o before at. above j o before at;
    }
