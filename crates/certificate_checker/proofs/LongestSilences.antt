-- The longest silence from a tick on: what rows it fails, and which gap it is.
use Rattle.std.proofs.Common.{ℕ, ◌≡◌, ◌+◌, ◌-◌, ◌<◌, ◌≤◌, inl, inr, List, length, get_or, refl, ap, subst, arith}
use Rattle.std.specs.Prelude.{slice_index}
use Rattle.std.proofs.lemmas.Bool.{cases_lt}
use Rattle.step_trace.proofs.ReportRows.{row_at_within}
use Rattle.certificate_checker.proofs.Common.{Gap, Row, Recorded, IsGap, GapRefutes-sound, PhiHolds-unrefuted, PhiFails}
use Rattle.certificate_checker.proofs.Common.{IsLongestGap, Stands, AreInOrder, AreClosings, HasNoGapAt, IsLongestGapAt}
use Rattle.certificate_checker.proofs.Common.{IsLongestSilence, IsTooShort}
use Rattle.certificate_checker.specs.declared.bounds.LongestSilence.{LongestSilence}
use Rattle.certificate_checker.proofs.RowSearches.{no_row, row_at_next, row_at_same}

-- a row that is too short has a number from 1 on
pub too_short_low : (closings : List ℕ) (rows : List Row) (k : ℕ) (s : LongestSilence) → IsTooShort closings rows k s → 0 < k
too_short_low closings rows k s h = let w = row_at_within rows k h.row.row h.row.here in omega (arith, w)

-- the row after i rows is too short if its bound is no longer than the longest silence
pub too_short_here : (closings : List ℕ) (rows : List Row) (i : ℕ) (s : LongestSilence) → i < length rows
    → IsLongestSilence closings (get_or rows i no_row).gst s → 0 < s.end - s.start
    → (get_or rows i no_row).phi ≤ s.end - s.start → IsTooShort closings rows (i + 1) s
too_short_here closings rows i s inside longest some short = record {
  row = record { row = get_or rows i no_row; here = row_at_next rows i no_row inside };
  longest = longest;
  some = omega (arith, some);
  short = omega (arith, some, short);
}

-- two that are longest are equally long
as_long : (closings : List ℕ) (g : ℕ) (s v : LongestSilence)
    → IsLongestSilence closings g s → IsLongestSilence closings g v → v.start < v.end → v.end - v.start ≤ s.end - s.start
as_long closings g s v l h some = omega (arith, l.longest v.start h.from (h.inside some), h.closed some, l.order, some)

-- no row is too short if it isn't by the longest silence
pub too_short_not : (closings : List ℕ) (rows : List Row) (i : ℕ) (s : LongestSilence)
    → IsLongestSilence closings (get_or rows i no_row).gst s
    → (0 < s.end - s.start → s.end - s.start < (get_or rows i no_row).phi) → (v : LongestSilence)
    → ¬ IsTooShort closings rows (i + 1) v
too_short_not closings rows i s longest not v h =
    let same = row_at_same rows i h.row.row no_row h.row.here in
    let own = subst (λ (r : Row). IsLongestSilence closings r.gst v) same h.longest in
    let bound = ap (λ (r : Row). r.phi) same in
    let most = as_long closings (get_or rows i no_row).gst s v longest own h.some in
    let late = not (omega (arith, most, h.some)) in
    omega (arith, most, h.some, h.short, late, bound)

-- in a tick that isn't closed by itself a gap begins that ends before the tick that closes it
gap_of_closing : (set : ℕ) (t : Recorded) (closings : List ℕ) (x : ℕ) → AreClosings set t closings
    → 1 ≤ x → x ≤ t.last → x < slice_index closings x → (w : Gap) × IsGap set t w × (w.from ≡ x) × (w.to + 1 ≡ slice_index closings x)
gap_of_closing set t closings x c low high some =
    let at = c.each x high in
    let h = at.unmet some in
    let until = at.until in (
      record { proc = h.proc; from = x; to = slice_index closings x - 1 },
      record {
        member = h.member;
        start = low;
        order = omega (arith, some);
        inside = omega (arith, until, some);
        silent = λ z a b s. h.silent z a (omega (arith, b, some)) s;
      },
      refl,
      omega (arith, some),
    )

-- no gap lasts longer
gap_closes : (set : ℕ) (t : Recorded) (closings : List ℕ) (o : Gap)
    → AreClosings set t closings → IsGap set t o → o.to < slice_index closings o.from
gap_closes set t closings o c g =
    let inside = g.inside in
    let at = c.each o.from (omega (arith, g.order, inside)) in
    elim (cases_lt o.to (slice_index closings o.from)) [
      | inl l ↦ l
      | inr l ↦ absurd (let s = at.full (omega (arith, l, inside)) o.proc g.member in
          let until = s.until in g.silent s.tick s.from (omega (arith, until, l)) s.step)
    ]

-- if the longest silence begins, a gap begins
pub silence_has_gap : (set : ℕ) (t : Recorded) (closings : List ℕ) (g : ℕ) (s : LongestSilence)
    → AreClosings set t closings → 1 ≤ g → IsLongestSilence closings g s → s.start < s.end → ¬ HasNoGapAt set t s.start
silence_has_gap set t closings g s c low l some none =
    let from = l.from in
    let inside = l.inside some in
    let long = c.long in
    let closed = l.closed some in
    let w = gap_of_closing set t closings s.start c
    (omega (arith, low, from)) (omega (arith, inside, long)) (omega (arith, closed, some)) in
    none w.0 w.1 w.2

-- the longest gap that begins there is the longest from the tick on
pub IsLongestGap-from_silence : (set : ℕ) (t : Recorded) (closings : List ℕ) (g : ℕ) (s : LongestSilence) (w : Gap)
    → AreClosings set t closings → 1 ≤ g → IsLongestSilence closings g s → s.start < s.end
    → IsLongestGapAt set t s.start w → IsLongestGap set t g w × (w.to + 1 ≡ s.end)
IsLongestGap-from_silence set t closings g s w c low l some at =
    let from = l.from in
    let inside = l.inside some in
    let long = c.long in
    let closed = l.closed some in
    let here = at.from in
    let v = gap_of_closing set t closings s.start c
    (omega (arith, low, from)) (omega (arith, inside, long)) (omega (arith, closed, some)) in
    let least = at.longest v.0 v.1 v.2 in
    let w_at = ap (λ (x : ℕ). slice_index closings x) here in
    let end : w.to + 1 ≡ s.end = omega (arith, least, v.3, gap_closes set t closings w c at.gap, w_at, closed) in
    let longest : (o : Gap) → IsGap set t o → g ≤ o.from → (slice_index closings o.from + s.start ≤ s.end + o.from) =
    λ o i f. (let order = i.order in let last = i.inside in
    l.longest o.from f (omega (arith, order, last, long))) in (
      record {
        gap = at.gap;
        from = omega (arith, from, here);
        longest = λ o i f. (let short = gap_closes set t closings o c i in let m = longest o i f in omega (arith, short, m, end, here));
        greatest = λ o i f same. (let short = gap_closes set t closings o c i in
            let m = longest o i f in
            let order = i.order in
            let last = i.inside in
            let latest = l.latest o.from f (omega (arith, order, last, long)) (omega (arith, short, m, same, end, here)) in
            omega (arith, latest, here));
        least = λ o i a b. at.least o i (omega (arith, a, here)) b;
      },
      end,
    )

-- the longest gap from a tick on is the longest silence
pub IsLongestSilence-from_gap : (set : ℕ) (t : Recorded) (closings : List ℕ) (g : ℕ) (w : Gap)
    → AreClosings set t closings → 1 ≤ g → IsLongestGap set t g w
    → IsLongestSilence closings g (record { start = w.from; end = w.to + 1 })
IsLongestSilence-from_gap set t closings g w c low l =
    let order = l.gap.order in
    let last = l.gap.inside in
    let long = c.long in
    let from = l.from in
    let most = gap_closes set t closings w c l.gap in
    let v = gap_of_closing set t closings w.from c (omega (arith, low, from)) (omega (arith, order, last)) (omega (arith, most, order)) in
    let least = l.longest v.0 v.1 (omega (arith, v.2, from)) in
    record {
      order = omega (arith, order);
      from = from;
      inside = λ _. omega (arith, order, last, long);
      closed = λ _. omega (arith, most, least, v.2, v.3);
      longest = λ x f inside. elim (cases_lt x (slice_index closings x)) [
        | inl some ↦ (let o = gap_of_closing set t closings x c (omega (arith, low, f)) (omega (arith, inside, long)) some in
            let m = l.longest o.0 o.1 (omega (arith, o.2, f)) in
            omega (arith, m, o.2, o.3))
        | inr none ↦ omega (arith, none, order)
      ];
      latest = λ x f inside same. elim (cases_lt x (slice_index closings x)) [
        | inl some ↦ (let o = gap_of_closing set t closings x c (omega (arith, low, f)) (omega (arith, inside, long)) some in
            let m = l.greatest o.0 o.1 (omega (arith, o.2, f)) (omega (arith, o.2, o.3, same)) in
            omega (arith, m, o.2))
        | inr none ↦ absurd (omega (arith, none, order, same))
      ];
    }

-- a row that is too short fails by the longest gap
pub PhiFails-from_silence : (set : ℕ) (t : Recorded) (closings : List ℕ) (rows : List Row) (k : ℕ) (s : LongestSilence)
    (w : Gap) → AreClosings set t closings → AreInOrder rows t.last → IsTooShort closings rows k s
    → IsLongestGapAt set t s.start w → Stands set t rows (PhiFails k w)
PhiFails-from_silence set t closings rows k s w c order h at =
    let l = IsLongestGap-from_silence set t closings h.row.row.gst s w c (order.start k h.row.row h.row.here) h.longest h.some at in
    let here = at.from in
    let short = h.short in (
      h.row,
      GapRefutes-sound set t _ _ w (record { gap = at.gap; from = l.0.from; long = omega (arith, short, here, l.1) }),
      l.0,
    )

-- and a row that fails is too short
pub too_short-from_PhiFails : (set : ℕ) (t : Recorded) (closings : List ℕ) (rows : List Row) (k : ℕ) (w : Gap) → AreClosings set t closings
    → AreInOrder rows t.last → Stands set t rows (PhiFails k w) → IsTooShort closings rows k (record { start = w.from; end = w.to + 1 })
too_short-from_PhiFails set t closings rows k w c order s =
    let low = order.start k s.0.row s.0.here in
    record {
      row = s.0;
      longest = IsLongestSilence-from_gap set t closings s.0.row.gst w c low s.2;
      some = omega (arith, s.2.gap.order);
      short = elim (cases_lt (w.to + 1) (s.0.row.phi + w.from)) [
        | inl short ↦ absurd (s.1 (PhiHolds-unrefuted set t _ _ low (omega (arith, short, s.2.gap.order)) (λ o r.
            omega (arith, r.long, s.2.longest o r.gap r.from, short))))
        | inr long ↦ long
      ];
    }
