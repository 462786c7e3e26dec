-- Which misses a picture shows.
use Rattle.std.proofs.Common.{ℕ, ◌≡◌, ◌-◌, ◌≤◌, ◌&&◌, ◌==◌, Bool, true, false, not, List, length, Option, Some, None, refl, zero, suc, arith, ap, ◌∙◌}
use Rattle.std.specs.Option.{option_map_or, option_and_then}
use Rattle.std.proofs.lemmas.Bool.{eqb-true, and_parts, and_from}
use Rattle.std.proofs.lemmas.Option.{none-some, slice_get-get_or}
use Rattle.step_trace.specs.declared.rows.Miss.{Miss}
use Rattle.step_trace.specs.declared.rows.Row.{Row}
use Rattle.step_trace.specs.Traces.{Recorded}
use Rattle.step_trace.specs.Ticks.{tick_of}
use Rattle.picture_marks.specs.declared.windows.Window.{Window}
use Rattle.picture_marks.specs.Messages.{proc_of}
use Rattle.step_trace.specs.Processors.{has_proc}
use Rattle.picture_marks.specs.Windows.{touches}
use Rattle.picture_marks.specs.Gathered.{gathered}
use Rattle.step_trace.specs.ReportRows.{row_at}
use Rattle.step_trace.proofs.ReportRows.{Contains-row_at, row_at_within}
use Rattle.picture_marks.specs.Rows.{miss_at, same_miss}
use Rattle.picture_marks.specs.Pictures.{shown_miss, shows_miss}
use Rattle.picture_marks.specs.Marks.{HasMiss, IsShownMiss, ShowsMisses}
use Rattle.picture_marks.proofs.GatheredLists.{gathered_has, gathered_from}
use Rattle.picture_marks.proofs.RowPlaces.{if_option}
use Rattle.picture_marks.proofs.ShownMarks.{touches_so, touches_test}

-- the test of a miss, and what it means
shown_miss_so : (trace : Recorded) (w : Window) (lanes : ℕ) (m : Miss) → shows_miss trace w lanes m ≡ true → IsShownMiss trace w lanes m
shown_miss_so trace w lanes m h =
    let t = and_parts (touches w (tick_of trace m.sent) (tick_of trace m.missed))
    (has_proc lanes (proc_of trace.steps m.sent) && has_proc lanes (proc_of trace.steps m.missed)) h in
    let e = and_parts (has_proc lanes (proc_of trace.steps m.sent)) (has_proc lanes (proc_of trace.steps m.missed)) t.1 in
    record { inside = touches_so w (tick_of trace m.sent) (tick_of trace m.missed) t.0; begins = e.0; ends = e.1 }

shown_test : (trace : Recorded) (w : Window) (lanes : ℕ) (m : Miss) → IsShownMiss trace w lanes m → shows_miss trace w lanes m ≡ true
shown_test trace w lanes m t = and_from _ _ (touches_test w (tick_of trace m.sent) (tick_of trace m.missed) t.inside)
    (and_from _ _ t.begins t.ends)

abbrev miss_from : ℕ → ℕ → Miss
miss_from x y = record { sent = x; missed = y }

same_so : (o : Option Miss) (m : Miss) → same_miss o (Some m) ≡ true → o ≡ Some m
same_so None m h = cc
same_so (Some a) m h =
    let t = and_parts (a.sent == m.sent) (a.missed == m.missed) h in
    let p : a.sent ≡ m.sent = eqb-true _ _ t.0 in
    let q : a.missed ≡ m.missed = eqb-true _ _ t.1 in
    ap (λ (x : Miss). Some x) (ap (λ (x : ℕ). miss_from x a.missed) p ∙ ap (λ (y : ℕ). miss_from m.sent y) q)

-- a row that has a miss
with_miss : (rows : List Row) (k : ℕ) (m : Miss) → miss_at rows k ≡ Some m → (r : Row) × (row_at rows k ≡ Some r) × (r.miss ≡ Some m)
with_miss rows k m h = go (row_at rows k) refl h
  where
    go : (o : Option Row) → row_at rows k ≡ o → option_and_then (λ r. r.miss) o ≡ Some m
        → (r : Row) × (row_at rows k ≡ Some r) × (r.miss ≡ Some m)
    go None e h = absurd (none-some m h)
    go (Some r) e h = (r, e, h)

shown_so : (trace : Recorded) (w : Window) (lanes : ℕ) (rows : List Row) (k : ℕ) (r : Row) → row_at rows k ≡ Some r
    → option_map_or (λ m. shows_miss trace w lanes m) (miss_at rows k) false ≡ true
    → same_miss (miss_at rows (k - 1)) (miss_at rows k) ≡ false
    → shown_miss trace w lanes rows k ≡ Some r
shown_so trace w lanes rows k r e p q =
    let n : not (same_miss (miss_at rows (k - 1)) (miss_at rows k)) ≡ true = rw q refl in
    let t = and_from _ _ p n in
    rw t e

abbrev Found : Recorded → Window → ℕ → List Row → Miss → ℕ → Type 0
Found trace w lanes rows m n = (k : ℕ)
    × (k ≤ n) × ((r : Row) × (row_at rows k ≡ Some r) × (r.miss ≡ Some m) × (shown_miss trace w lanes rows k ≡ Some r))

first_with : (trace : Recorded) (w : Window) (lanes : ℕ) (rows : List Row) (m : Miss) (k : ℕ)
    → IsShownMiss trace w lanes m → miss_at rows k ≡ Some m → Found trace w lanes rows m k
first_with trace w lanes rows m zero t h = absurd (none-some m h)
first_with trace w lanes rows m (suc k) t h = go (same_miss (miss_at rows k) (miss_at rows (suc k))) refl
    (λ e. first_with trace w lanes rows m k t e) where
      go : (same : Bool) → same_miss (miss_at rows k) (miss_at rows (suc k)) ≡ same
          → (miss_at rows k ≡ Some m → Found trace w lanes rows m k) → Found trace w lanes rows m (suc k)
      go true e before =
          let f = before (same_so (miss_at rows k) m (rw h at e)) in
          let l : f.0 ≤ k = f.1 in
          (f.0, omega arith, f.2)
      go false e before =
          let y = with_miss rows (suc k) m h in
          let back_one : suc k - 1 ≡ k = omega arith in
          let other : same_miss (miss_at rows (suc k - 1)) (miss_at rows (suc k)) ≡ false = rw back_one e in
          let inside : option_map_or (λ m. shows_miss trace w lanes m) (miss_at rows (suc k)) false
          ≡ true = rw h (shown_test trace w lanes m t) in
          (suc k, omega arith, (y.0, y.1, y.2, shown_so trace w lanes rows (suc k) y.0 y.1 inside other))

pub misses_exact : (trace : Recorded) (w : Window) (lanes : ℕ) (rows : List Row)
    → ShowsMisses trace rows w lanes (gathered (shown_miss trace w lanes rows) (length rows))
misses_exact trace w lanes rows m = (
  (λ (g : HasMiss (gathered (shown_miss trace w lanes rows) (length rows)) m).
      let y = gathered_from (shown_miss trace w lanes rows) (length rows) g.0 g.1 in
      let i = if_option (option_map_or (λ m. shows_miss trace w lanes m) (miss_at rows y.0) false
      && not (same_miss (miss_at rows (y.0 - 1)) (miss_at rows y.0))) (row_at rows y.0) g.0 y.3 in
      let h : miss_at rows y.0 ≡ Some m = rw i.1 g.2 in
      let passed : option_map_or (λ m. shows_miss trace w lanes m) (miss_at rows y.0) false ≡ true =
      (and_parts (option_map_or (λ m. shows_miss trace w lanes m) (miss_at rows y.0) false)
      (not (same_miss (miss_at rows (y.0 - 1)) (miss_at rows y.0))) i.0).0 in
      ((g.0, Contains-row_at rows y.0 g.0 i.1, g.2), shown_miss_so trace w lanes m (rw h at passed))),
  (λ (g : HasMiss rows m × IsShownMiss trace w lanes m).
      let at_place : row_at rows (suc g.0.1.0) ≡ Some g.0.0 = slice_get-get_or rows g.0.1.0 g.0.0 g.0.1.1
      ∙ ap (λ (x : Row). Some x) g.0.1.2 in
      let h : miss_at rows (suc g.0.1.0) ≡ Some m = rw at_place g.0.2 in
      let f = first_with trace w lanes rows m (suc g.0.1.0) g.1 h in
      let within = row_at_within rows f.0 f.2.0 f.2.1 in
      (f.2.0, gathered_has (shown_miss trace w lanes rows) (length rows) f.0 f.2.0 within.0 within.1 f.2.3, f.2.2)),
)
