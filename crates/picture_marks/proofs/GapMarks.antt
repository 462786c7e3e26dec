-- Which gaps a picture shows.
use Rattle.std.proofs.Common.{ℕ, ◌≡◌, ◌+◌, ◌-◌, ◌≤◌, ◌&&◌, ◌==◌, Bool, true, false, not, List, length, Option, Some, None, refl, zero, suc, arith, ap, subst, ◌∙◌}
use Rattle.std.specs.Option.{option_map_or, option_and_then}
use Rattle.std.proofs.lemmas.Bool.{eqb-true, and_parts, and_from}
use Rattle.std.proofs.lemmas.Option.{none-some, slice_get-get_or}
use Rattle.step_trace.specs.declared.rows.Gap.{Gap}
use Rattle.step_trace.specs.declared.rows.Row.{Row}
use Rattle.step_trace.specs.Fronts.{IsReport, IsReportRow, triple_of}
use Rattle.step_trace.specs.Traces.{Recorded}
use Rattle.step_trace.specs.Witnesses.{NamesGap}
use Rattle.step_trace.proofs.BoundLaws.{PhiHolds-later}
use Rattle.step_trace.proofs.FrontCriterion.{IsPhi-on_front}
use Rattle.picture_marks.specs.declared.windows.Window.{Window}
use Rattle.step_trace.specs.Processors.{has_proc}
use Rattle.picture_marks.specs.Windows.{touches}
use Rattle.picture_marks.specs.Gathered.{gathered}
use Rattle.step_trace.specs.ReportRows.{row_at}
use Rattle.step_trace.proofs.ReportRows.{Contains-row_at, row_at_within}
use Rattle.picture_marks.specs.Rows.{gap_at, share_end}
use Rattle.picture_marks.specs.Pictures.{shown_gap, shows_gap}
use Rattle.picture_marks.specs.Marks.{HasGap, IsShownGap, Covers, ShowsGaps}
use Rattle.picture_marks.proofs.GatheredLists.{gathered_has, gathered_from}
use Rattle.picture_marks.proofs.RowPlaces.{if_option, rows_rise}
use Rattle.picture_marks.proofs.ShownMarks.{touches_so, touches_test}

-- of two rows of a report the later one has no greater processor bound
phi_falls : (set : ℕ) (trace : Recorded) (r s : Row) → IsReportRow set trace r → IsReportRow set trace s → r.gst ≤ s.gst → s.phi ≤ r.phi
phi_falls set trace r s p q l =
    let before = IsPhi-on_front set trace (triple_of r) p.front in
    (IsPhi-on_front set trace (triple_of s) q.front).least r.phi before.positive (PhiHolds-later set trace r.gst s.gst r.phi l before.holds)

-- how long the gap of a row is
gap_long : (set : ℕ) (trace : Recorded) (r : Row) (a : Gap) → IsReportRow set trace r → r.gap ≡ Some a → a.from + r.phi ≡ a.to + 2
gap_long set trace r a p e = (subst (λ o. NamesGap set trace r.gst r.phi o) e p.gap).1.long

-- of two rows next to each other whose gaps share an end the first has the gap that covers that of the second
first_covers : (set : ℕ) (trace : Recorded) (rows : List Row) (k : ℕ) (r s : Row) (a b : Gap) → IsReport set trace rows
    → row_at rows k ≡ Some r → row_at rows (suc k) ≡ Some s → r.gap ≡ Some a → s.gap ≡ Some b → a.proc ≡ b.proc → a.to ≡ b.to → Covers a b
first_covers set trace rows k r s a b is e f g h same_proc same_end =
    let p = is.sound r (Contains-row_at rows k r e) in
    let q = is.sound s (Contains-row_at rows (suc k) s f) in
    let falls : s.phi ≤ r.phi = phi_falls set trace r s p q (rows_rise rows k r s is.rising e f) in
    let first : a.from + r.phi ≡ a.to + 2 = gap_long set trace r a p g in
    let second : b.from + s.phi ≡ b.to + 2 = gap_long set trace s b q h in
    record { proc = same_proc; end = same_end; longer = omega arith }

-- the test of a gap, and what it means
shown_gap_so : (w : Window) (lanes : ℕ) (a : Gap) → shows_gap w lanes a ≡ true → IsShownGap w lanes a
shown_gap_so w lanes a h =
    let t = and_parts (touches w a.from a.to) (has_proc lanes a.proc) h in
    record { inside = touches_so w a.from a.to t.0; lane = t.1 }

shown_test : (w : Window) (lanes : ℕ) (a : Gap) → IsShownGap w lanes a → shows_gap w lanes a ≡ true
shown_test w lanes a t = and_from _ _ (touches_test w a.from a.to t.inside) t.lane

-- two gaps that share an end
same_end_so : (o : Option Gap) (b : Gap) → share_end o (Some b) ≡ true → (a : Gap) × (o ≡ Some a) × (a.proc ≡ b.proc) × (a.to ≡ b.to)
same_end_so None b h = cc
same_end_so (Some a) b h = let t = and_parts (a.proc == b.proc) (a.to == b.to) h in (a, refl, eqb-true _ _ t.0, eqb-true _ _ t.1)

-- a row that has a gap
with_gap : (rows : List Row) (k : ℕ) (a : Gap) → gap_at rows k ≡ Some a → (r : Row) × (row_at rows k ≡ Some r) × (r.gap ≡ Some a)
with_gap rows k a h = go (row_at rows k) refl h
  where
    go : (o : Option Row) → row_at rows k ≡ o → option_and_then (λ r. r.gap) o ≡ Some a
        → (r : Row) × (row_at rows k ≡ Some r) × (r.gap ≡ Some a)
    go None e h = absurd (none-some a h)
    go (Some r) e h = (r, e, h)

shown_so : (w : Window) (lanes : ℕ) (rows : List Row) (k : ℕ) (r : Row) → row_at rows k ≡ Some r
    → option_map_or (λ a. shows_gap w lanes a) (gap_at rows k) false ≡ true
    → share_end (gap_at rows (k - 1)) (gap_at rows k) ≡ false
    → shown_gap w lanes rows k ≡ Some r
shown_so w lanes rows k r e p q =
    let n : not (share_end (gap_at rows (k - 1)) (gap_at rows k)) ≡ true = rw q refl in
    let t = and_from _ _ p n in
    rw t e

-- a row up to number n that is shown and whose gap covers this one
record Found (w : Window) (lanes : ℕ) (rows : List Row) (b : Gap) (n : ℕ) : Type 0 where
  pub place : ℕ
  pub until : place ≤ n
  pub row : Row
  pub has : Gap
  pub at : row_at rows place ≡ Some row
  pub gap : row.gap ≡ Some has
  pub shown : shown_gap w lanes rows place ≡ Some row
  pub covers : Covers has b

Covers-itself : (a : Gap) → Covers a a
Covers-itself a = record { proc = refl; end = refl; longer = omega arith }

Covers-further : (a b c : Gap) → Covers a b → Covers b c → Covers a c
Covers-further a b c p q =
    let first : a.from ≤ b.from = p.longer in
    let second : b.from ≤ c.from = q.longer in
    record { proc = p.proc ∙ q.proc; end = p.end ∙ q.end; longer = omega arith }

-- what covers a gap that is shown is shown
covers_shown : (w : Window) (lanes : ℕ) (a b : Gap) → Covers a b → IsShownGap w lanes b → IsShownGap w lanes a
covers_shown w lanes a b p t =
    let longer : a.from ≤ b.from = p.longer in
    let end : a.to ≡ b.to = p.end in
    let begins : b.from ≤ w.to = t.inside.begins in
    let ends : w.first ≤ b.to = t.inside.ends in
    record { inside = record { begins = omega arith; ends = omega arith }; lane = ap (has_proc lanes) p.proc ∙ t.lane }

first_with : (set : ℕ) (trace : Recorded) (w : Window) (lanes : ℕ) (rows : List Row) → IsReport set trace rows
    → (k : ℕ) (b : Gap) → IsShownGap w lanes b → gap_at rows k ≡ Some b → Found w lanes rows b k
first_with set trace w lanes rows is zero b t h = absurd (none-some b h)
first_with set trace w lanes rows is (suc k) b t h =
    go (share_end (gap_at rows k) (gap_at rows (suc k))) refl (λ a. first_with set trace w lanes rows is k a) where
      go : (same : Bool) → share_end (gap_at rows k) (gap_at rows (suc k)) ≡ same
          → ((a : Gap) → IsShownGap w lanes a → gap_at rows k ≡ Some a → Found w lanes rows a k) → Found w lanes rows b (suc k)
      go true e before =
          let s = with_gap rows (suc k) b h in
          let y = same_end_so (gap_at rows k) b (rw h at e) in
          let r = with_gap rows k y.0 y.1 in
          let covers = first_covers set trace rows k r.0 s.0 y.0 b is r.1 s.1 r.2 s.2 y.2 y.3 in
          let f = before y.0 (covers_shown w lanes y.0 b covers t) y.1 in
          let l : f.place ≤ k = f.until in
          record {
            place = f.place;
            until = omega arith;
            row = f.row;
            has = f.has;
            at = f.at;
            gap = f.gap;
            shown = f.shown;
            covers = Covers-further f.has y.0 b f.covers covers;
          }
      go false e before =
          let y = with_gap rows (suc k) b h in
          let back_one : suc k - 1 ≡ k = omega arith in
          let other : share_end (gap_at rows (suc k - 1)) (gap_at rows (suc k)) ≡ false = rw back_one e in
          let inside : option_map_or (λ a. shows_gap w lanes a) (gap_at rows (suc k)) false ≡ true = rw h (shown_test w lanes b t) in
          record {
            place = suc k;
            until = omega arith;
            row = y.0;
            has = b;
            at = y.1;
            gap = y.2;
            shown = shown_so w lanes rows (suc k) y.0 y.1 inside other;
            covers = Covers-itself b;
          }

pub gaps_exact : (set : ℕ) (trace : Recorded) (w : Window) (lanes : ℕ) (rows : List Row)
    → IsReport set trace rows → ShowsGaps rows w lanes (gathered (shown_gap w lanes rows) (length rows))
gaps_exact set trace w lanes rows is = record {
  sound = λ a (g : HasGap (gathered (shown_gap w lanes rows) (length rows)) a).
      let y = gathered_from (shown_gap w lanes rows) (length rows) g.0 g.1 in
      let i = if_option (option_map_or (λ x. shows_gap w lanes x) (gap_at rows y.0) false
      && not (share_end (gap_at rows (y.0 - 1)) (gap_at rows y.0))) (row_at rows y.0) g.0 y.3 in
      let h : gap_at rows y.0 ≡ Some a = rw i.1 g.2 in
      let passed : option_map_or (λ x. shows_gap w lanes x) (gap_at rows y.0) false ≡ true =
      (and_parts (option_map_or (λ x. shows_gap w lanes x) (gap_at rows y.0) false)
      (not (share_end (gap_at rows (y.0 - 1)) (gap_at rows y.0))) i.0).0 in
      ((g.0, Contains-row_at rows y.0 g.0 i.1, g.2), shown_gap_so w lanes a (rw h at passed));
  covered = λ b (g : HasGap rows b) t.
      let at_place : row_at rows (suc g.1.0) ≡ Some g.0 = slice_get-get_or rows g.1.0 g.0 g.1.1 ∙ ap (λ (x : Row). Some x) g.1.2 in
      let h : gap_at rows (suc g.1.0) ≡ Some b = rw at_place g.2 in
      let f = first_with set trace w lanes rows is (suc g.1.0) b t h in
      let within = row_at_within rows f.place f.row f.at in
      (f.has, (f.row, gathered_has (shown_gap w lanes rows) (length rows) f.place f.row within.0 within.1 f.shown, f.gap), f.covers);
}
