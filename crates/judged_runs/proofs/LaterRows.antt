-- The rows of a trace's last levels.
use Rattle.std.proofs.Common.{ℕ, ◌≡◌, ◌+◌, ◌-◌, ◌≤◌, List, [], ◌∷◌, ◌++◌, map, length, get_or, take, take_all}
use Rattle.std.proofs.Common.{Contains, Some, None, Bool, true, false, inl, inr, zero, suc, refl, sym, ap, subst, ◌∙◌}
use Rattle.std.proofs.Common.{arith}
use Rattle.std.specs.Prelude.{slice_get}
use Rattle.std.proofs.lemmas.Bool.{cases_lt}
use Rattle.std.proofs.lemmas.Option.{none-some, same_Some, slice_get_within, slice_get-get_or}
use Rattle.step_trace.specs.declared.rows.Row.{Row}
use Rattle.step_trace.specs.Traces.{Recorded}
use Rattle.step_trace.proofs.BoundLaws.{DeltaHolds-later, PhiHolds-later}
use Rattle.step_trace.proofs.ListMembers.{Contains-map, Contains-slice_get}
use Rattle.suffix_staircase.specs.declared.levels.Level.{Level}
use Rattle.suffix_staircase.specs.Levels.{level_of, row_from, rows_of, same_bounds}
use Rattle.suffix_staircase.specs.Analysis.{AreLevelsFrom, IsLevelAt}
use Rattle.suffix_staircase.proofs.KeptStretches.{same_bounds-parts}
use Rattle.suffix_staircase.proofs.RowLaws.{AreRows-rows}
use Rattle.judged_runs.specs.LateInTime.{AreFalling}
use Rattle.judged_runs.specs.LaterRows.{AreRowsAfter, later_by}
use Rattle.judged_runs.proofs.FallingRows.{gst_below}

-- a row has begun at a level, and has its bounds
record IsRowOf (levels : List Level) (k : ℕ) (l : Level) : Type 0 where
  pub row : Row
  pub member : Contains (rows_of levels) row
  pub begun : row.gst ≤ k + 1
  pub delta : row.delta ≡ l.delta
  pub phi : row.phi ≡ l.phi

-- each level has one
row_of : (levels : List Level) (k : ℕ) (l : Level) → slice_get levels k ≡ Some l → IsRowOf levels k l
row_of levels zero l at = record {
  row = row_from 1 l;
  member = (AreRows-rows levels).complete (row_from 1 l) (record
      { start = record { level = l; here = omega arith; stands = at; other = λ last later. absurd (omega (arith, later)) }; stands = at });
  begun = omega arith;
  delta = refl;
  phi = refl;
}
row_of levels (suc k) l at =
    let within = slice_get_within levels (suc k) l at in
    let before = slice_get-get_or levels k l (omega (arith, within)) in
    go (get_or levels k l) before (same_bounds l (get_or levels k l)) refl (row_of levels k (get_or levels k l) before)
  where
    go : (last : Level) → slice_get levels k ≡ Some last
        → (b : Bool) → same_bounds l last ≡ b → IsRowOf levels k last → IsRowOf levels (suc k) l
    go last before true e r =
        let same = same_bounds-parts l last e in
        let begun = r.begun in
        record { row = r.row; member = r.member; begun = omega (arith, begun); delta = r.delta ∙ sym same.0; phi = r.phi ∙ sym same.1 }
    go last before false e r =
        let here : suc k + 1 - 1 ≡ suc k = omega arith in
        let place : suc k + 1 - 2 ≡ k = omega arith in
        let stands : slice_get levels (suc k + 1 - 1) ≡ Some l = rw here at in
        record {
          row = row_from (suc k + 1) l;
          member = (AreRows-rows levels).complete (row_from (suc k + 1) l) (record {
            start = record {
              level = l;
              here = omega arith;
              stands = stands;
              other = λ o later found. subst (λ (x : Level). same_bounds l x ≡ false) (same_Some last o (sym before ∙ rw place at found)) e;
            };
            stands = stands;
          });
          begun = omega arith;
          delta = refl;
          phi = refl;
        }

-- what is at a place of mapped rows
record IsMapped {X Y : Type 0} (f : X → Y) (xs : List X) (k : ℕ) (y : Y) : Type 0 where
  pub from : X
  pub there : slice_get xs k ≡ Some from
  pub same : f from ≡ y

mapped : {X Y : Type 0} (f : X → Y) (xs : List X) (k : ℕ) (y : Y) → slice_get (map f xs) k ≡ Some y → IsMapped f xs k y
mapped f [] k y h = absurd (none-some y h)
mapped f (x ∷ xs) zero y h = record { from = x; there = refl; same = same_Some _ _ h }
mapped f (x ∷ xs) (suc k) y h = let m = mapped f xs k y h in record { from = m.from; there = m.there; same = m.same }

module _ (set : ℕ) (cut : Recorded) (after : ℕ) (levels : List Level) (are : AreLevelsFrom set cut (after + 1) levels) where
  abbrev pub rows : List Row
  rows = rows_of levels

  -- a row, so many ticks later, has the least bounds from its tick on
  known : (k : ℕ) (r : Row) → slice_get rows k ≡ Some r → IsLevelAt set cut (r.gst + after) (level_of r)
  known k r at =
      let row = (AreRows-rows levels).sound r (Contains-slice_get rows k r at) in
      let here = row.start.here in
      let place : after + 1 + (r.gst - 1) ≡ r.gst + after = omega (arith, here) in
      subst (λ g. IsLevelAt set cut g (level_of r)) place (are.each (r.gst - 1) (level_of r) row.stands)

  rows_fall : AreFalling (map (later_by after) rows)
  rows_fall = record {
    delta = λ j k a b l p q.
        let m = mapped (later_by after) rows j a p in
        let n = mapped (later_by after) rows k b q in
        let first = known j m.from m.there in
        let second = known k n.from n.there in
        let order = gst_below rows j k m.from n.from (AreRows-rows levels).rising l m.there n.there in
        let falls : (n.from).delta ≤ (m.from).delta =
        second.delta.least (m.from).delta first.delta.positive (DeltaHolds-later set cut
        ((m.from).gst + after) ((n.from).gst + after) (m.from).delta (omega (arith, order)) first.delta.holds) in
        let one : (m.from).delta ≡ a.delta = ap (λ (r : Row). r.delta) m.same in
        let other : (n.from).delta ≡ b.delta = ap (λ (r : Row). r.delta) n.same in
        omega (arith, falls, one, other);
    phi = λ j k a b l p q.
        let m = mapped (later_by after) rows j a p in
        let n = mapped (later_by after) rows k b q in
        let first = known j m.from m.there in
        let second = known k n.from n.there in
        let order = gst_below rows j k m.from n.from (AreRows-rows levels).rising l m.there n.there in
        let falls : (n.from).phi ≤ (m.from).phi =
        second.phi.least (m.from).phi first.phi.positive
        (PhiHolds-later set cut ((m.from).gst + after) ((n.from).gst + after) (m.from).phi (omega (arith, order)) first.phi.holds) in
        let one : (m.from).phi ≡ a.phi = ap (λ (r : Row). r.phi) m.same in
        let other : (n.from).phi ≡ b.phi = ap (λ (r : Row). r.phi) n.same in
        omega (arith, falls, one, other);
  }

  -- so they are the rows of the last ticks
  pub AreRowsAfter-levels : AreRowsAfter set cut after (map (later_by after) rows)
  AreRowsAfter-levels = record {
    falling = rows_fall;
    served = λ t feasible young.
        let end = feasible.end in
        let count = are.count in
        let k = t.gst - after - 1 in
        let none : Level = record { delta = 1; miss = None; phi = 1; gap = None } in
        let level = get_or levels k none in
        let at : slice_get levels k ≡ Some level = slice_get-get_or levels k none (omega (arith, end, count, young)) in
        let here : after + 1 + k ≡ t.gst = omega (arith, young) in
        let own : IsLevelAt set cut t.gst level = subst (λ g. IsLevelAt set cut g level) here (are.each k level at) in
        let r = row_of levels k level at in
        let c = Contains-map (later_by after) rows r.row r.member in
        let begun = r.begun in
        let delta = r.delta in
        let phi = r.phi in
        let least_delta = own.delta.least t.delta feasible.delta_positive feasible.delta in
        let least_phi = own.phi.least t.phi feasible.phi_positive feasible.phi in
        record {
          place = c.0;
          row = later_by after r.row;
          there = slice_get-get_or (map (later_by after) rows) c.0 (later_by after r.row) c.1 ∙ ap (λ (x : Row). Some x) c.2;
          gst = omega (arith, begun, young);
          delta = omega (arith, delta, least_delta);
          phi = omega (arith, phi, least_phi);
        };
  }

-- a row ends within its levels
pub row_within : (levels : List Level) (k : ℕ) (r : Row) → slice_get (rows_of levels) k ≡ Some r → r.gst ≤ length levels
row_within levels k r at =
    let row = (AreRows-rows levels).sound r (Contains-slice_get (rows_of levels) k r at) in
    let within = slice_get_within levels (r.gst - 1) (level_of r) row.stands in
    omega (arith, within)

-- one mapped row more
pub map_next : (f : Row → Row) (rows : List Row) (k : ℕ) (r : Row)
    → slice_get rows k ≡ Some r → map f (take k rows) ++ f r ∷ [] ≡ map f (take (k + 1) rows)
map_next f (x ∷ rows) zero r e = ap (λ (y : Row). f y ∷ []) (sym (same_Some x r e))
map_next f (x ∷ rows) (suc k) r e = let next : suc k + 1 ≡ suc (k + 1) = omega arith in
    rw next (ap (λ (ys : List Row). f x ∷ ys) (map_next f rows k r e))
map_next f [] k r e = absurd (none-some r e)

-- if there is no further row, all were taken
pub all_mapped : (f : Row → Row) (rows : List Row) (k : ℕ) → None ≡ slice_get rows k → map f (take k rows) ≡ map f rows
all_mapped f [] k none = ap (map f) (take_all k [] (omega arith))
all_mapped f (r ∷ rest) k none = ap (map f) (take_all k (r ∷ rest) (elim (cases_lt k (length (r ∷ rest))) [
  | inl l ↦ absurd (none-some _ (none ∙ slice_get-get_or (r ∷ rest) k r l))
  | inr m ↦ m
]))
