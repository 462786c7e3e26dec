-- Rows by their numbers.
use Rattle.std.proofs.Common.{ℕ, ◌≡◌, ◌∙◌, ◌+◌, ◌<◌, ◌≤◌, Bool, true, false, List, length, map, get_or, Option, Some, None, if◌then◌else◌, refl, zero, suc, arith, sym, ap}
use Rattle.std.specs.List.Sorted.{IsStrictlyIncreasing}
use Rattle.std.proofs.lemmas.List.{get_or-map, length-map}
use Rattle.std.proofs.lemmas.Option.{none-some, same_Some, slice_get_within, slice_get-get_or}
use Rattle.step_trace.specs.declared.rows.Row.{Row}
use Rattle.step_trace.specs.ReportRows.{row_at}

pub if_option : {X : Type 0} (t : Bool) (o : Option X) (y : X) → (if t then o else None) ≡ Some y → (t ≡ true) × (o ≡ Some y)
if_option true o y h = (refl, h)
if_option false o y h = absurd (none-some y h)

-- where the row of this place begins
begins_at : (rows : List Row) (k : ℕ) (r : Row) → row_at rows (suc k) ≡ Some r → get_or (map (λ x. x.gst) rows) k 0 ≡ r.gst
begins_at rows k r e =
    let inside = slice_get_within rows k r e in
    let same : get_or rows k r ≡ r = same_Some _ _ (sym (slice_get-get_or rows k r inside) ∙ e) in
    get_or-map (λ (x : Row). x.gst) rows k r 0 inside ∙ ap (λ (x : Row). x.gst) same

-- a row doesn't begin after the next one
pub rows_rise : (rows : List Row) (k : ℕ) (r s : Row)
    → IsStrictlyIncreasing (map (λ x. x.gst) rows) → row_at rows k ≡ Some r → row_at rows (suc k) ≡ Some s → r.gst ≤ s.gst
rows_rise rows zero r s rising e f = absurd (none-some r e)
rows_rise rows (suc k) r s rising e f =
    let inside : suc k < length rows = slice_get_within rows (suc k) s f in
    let next : suc k ≡ k + 1 = omega arith in
    let below : get_or (map (λ x. x.gst) rows) k 0
    < get_or (map (λ x. x.gst) rows) (suc k) 0 = rw next (rising k (rw length-map (omega arith))) in
    let first : get_or (map (λ x. x.gst) rows) k 0 ≡ r.gst = begins_at rows k r e in
    let second : get_or (map (λ x. x.gst) rows) (suc k) 0 ≡ s.gst = begins_at rows (suc k) s f in
    omega arith
