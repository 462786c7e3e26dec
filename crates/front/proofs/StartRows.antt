-- The rows of the starts of a trace's levels are the report.
use Rattle.std.proofs.Common.{ℕ, ◌≡◌, ◌-◌, ◌≤◌, List, length, map, get_or, Contains, Some, None, Bool, true, false, ◌&&◌, ◌==◌, eq-eqb, refl, sym, subst, ◌∙◌, arith}
use Rattle.std.specs.Prelude.{slice_get}
use Rattle.std.proofs.lemmas.Option.{same_Some, slice_get_within, slice_get-get_or}
use Rattle.step_trace.specs.Traces.{Recorded}
use Rattle.step_trace.specs.declared.rows.Row.{Row}
use Rattle.step_trace.specs.Bounds.{IsDelta, IsPhi, DeltaHolds, PhiHolds}
use Rattle.step_trace.specs.Fronts.{Triple, IsOnFront, IsReport, triple_of}
use Rattle.step_trace.proofs.BoundLaws.{IsLeastBound-unique}
use Rattle.suffix_staircase.specs.declared.levels.Level.{Level}
use Rattle.suffix_staircase.specs.Levels.{IsStart, same_bounds}
use Rattle.suffix_staircase.specs.Analysis.{IsLevelAt, AreLevels}
use Rattle.suffix_staircase.specs.Levels.{level_of, row_from, rows_of}
use Rattle.suffix_staircase.proofs.KeptStretches.{same_bounds-parts}
use Rattle.suffix_staircase.proofs.RowLaws.{IsStartRow, AreRows, AreRows-rows}
use Rattle.step_trace.proofs.FrontCriterion.{IsDelta-on_front, IsPhi-on_front, on_front-changes, IsOnFront-from_change}
use Rattle.step_trace.proofs.ListMembers.{Contains-map}

differ : (a b c d : ℕ) → a ≡ b → c ≡ d → (a == b && c == d) ≡ false → ⊥
differ a b c d e f h = let g : true ≡ false = rw (eq-eqb a b e, eq-eqb c d f) at h in cc

-- a start and its least bounds, which aren't both those of the tick before, are on the front
start-on_front : (set : ℕ) (trace : Recorded) (levels : List Level) (r : Row) → AreLevels set trace levels
    → IsStartRow levels r → IsLevelAt set trace r.gst (level_of r)
    → IsOnFront set trace (triple_of r)
start-on_front set trace levels r are row level =
    let within = slice_get_within levels (r.gst - 1) (level_of r) row.stands in
    let count : length levels ≡ trace.last = are.count in
    let here : 1 ≤ r.gst = row.start.here in
    IsOnFront-from_change set trace (triple_of r) here (omega arith) level.delta level.phi (λ later delta phi.
    let last = get_or levels (r.gst - 2) (level_of r) in
    let found = slice_get-get_or levels (r.gst - 2) (level_of r) (omega arith) in
    let place : r.gst - 2 ≡ r.gst - 1 - 1 = omega arith in
    let there = subst (λ (n : ℕ). slice_get levels n ≡ Some last) place found in
    let before = are.each (r.gst - 1) last (omega arith) there in
    let own : row.start.level ≡ level_of r = same_Some _ _ (sym row.start.stands ∙ row.stands) in
    differ r.delta last.delta r.phi last.phi
    (IsLeastBound-unique (DeltaHolds set trace (r.gst - 1)) r.delta last.delta delta before.delta)
    (IsLeastBound-unique (PhiHolds set trace (r.gst - 1)) r.phi last.phi phi before.phi)
    (subst (λ (x : Level). same_bounds x last ≡ false) own (row.start.other last (omega arith) found)))

-- the level at a triple of the front has its bounds
front-bounds : (set : ℕ) (trace : Recorded) (t : Triple) (level : Level) → IsOnFront set trace t
    → IsLevelAt set trace t.gst level
    → (level.delta ≡ t.delta) × (level.phi ≡ t.phi)
front-bounds set trace t level front known = (
  IsLeastBound-unique (DeltaHolds set trace t.gst) level.delta t.delta known.delta
      (IsDelta-on_front set trace t front),
  IsLeastBound-unique (PhiHolds set trace t.gst) level.phi t.phi known.phi (IsPhi-on_front set trace t front),
)

-- what the front has begins at a start
front-start : (set : ℕ) (trace : Recorded) (levels : List Level) (t : Triple) (level : Level)
    → AreLevels set trace levels → IsOnFront set trace t
    → slice_get levels (t.gst - 1) ≡ Some level → IsLevelAt set trace t.gst level → IsStart levels t.gst
front-start set trace levels t level are front stands known = record {
  level = level;
  here = front.feasible.start;
  stands = stands;
  other = λ last later found. go last later found (same_bounds level last) refl;
} where
  go : (last : Level) → 2 ≤ t.gst → slice_get levels (t.gst - 2) ≡ Some last → (b : Bool) → same_bounds level last ≡ b
      → b ≡ false
  go last later found false e = refl
  go last later found true e =
      let same = same_bounds-parts level last e in
      let place : t.gst - 2 ≡ t.gst - 1 - 1 = omega arith in
      let before : IsLevelAt set trace (t.gst - 1) last = are.each (t.gst - 1) last (omega arith) (rw place at found) in
      let own = front-bounds set trace t level front known in
      absurd (on_front-changes set trace t (t.gst - 1) front (omega arith) (omega arith)
      (subst (IsDelta set trace (t.gst - 1)) (sym same.0 ∙ own.0) before.delta)
      (subst (IsPhi set trace (t.gst - 1)) (sym same.1 ∙ own.1) before.phi))

-- the rows of all starts are the report
pub IsReport-rows_of : (set : ℕ) (trace : Recorded) (levels : List Level) → AreLevels set trace levels
    → IsReport set trace (rows_of levels)
IsReport-rows_of set trace levels are = record {
  rising = rows.rising;
  sound = λ r c.
      let row = rows.sound r c in
      let known = are.each r.gst (level_of r) row.start.here row.stands in
      record { front = start-on_front set trace levels r are row known; miss = known.miss; gap = known.gap };
  complete = λ t front.
      let count : length levels ≡ trace.last = are.count in
      let first : 1 ≤ t.gst = front.feasible.start in
      let end : t.gst ≤ trace.last = front.feasible.end in
      let none : Level = record { delta = 1; miss = None; phi = 1; gap = None } in
      let level = get_or levels (t.gst - 1) none in
      let stands : slice_get levels (t.gst - 1) ≡ Some level = slice_get-get_or levels (t.gst - 1) none (omega arith) in
      let known = are.each t.gst level first stands in
      let row = row_from t.gst level in
      let start = front-start set trace levels t level are front stands known in
      let own = front-bounds set trace t level front known in
      subst (Contains (map triple_of (rows_of levels))) (let same : triple_of row ≡ t = rw (own.0, own.1) refl in same)
      (Contains-map triple_of (rows_of levels) row (rows.complete row (record { start = start; stands = stands })));
} where
  rows : AreRows levels (rows_of levels)
  rows = AreRows-rows levels
