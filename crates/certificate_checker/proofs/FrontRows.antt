-- Rows that are the front: their bounds are the least ones all over their stretches, and only a witness can be held
-- against them.
use Rattle.std.proofs.Common.{ℕ, ◌≡◌, ◌+◌, ◌-◌, ◌<◌, ◌≤◌, inl, inr, List, [], ◌∷◌, map, Contains, Some, refl, ap, sym, ◌∙◌, subst, suc, zero, arith}
use Rattle.std.specs.List.Sorted.{IsStrictlyIncreasing}
use Rattle.std.proofs.lemmas.Bool.{cases_eq, cases_lt}
use Rattle.std.proofs.lemmas.Option.{none-some, same_Some}
use Rattle.step_trace.proofs.ReportRows.{Contains-row_at}
use Rattle.certificate_checker.proofs.Common.{Row, Recorded, DeltaHolds, PhiHolds, IsDelta, IsPhi, Triple, IsOnFront}
use Rattle.certificate_checker.proofs.Common.{triple_of, Contains-nil, Contains-from_map, DeltaHolds-later}
use Rattle.certificate_checker.proofs.Common.{PhiHolds-later, IsLeastBound-unique, IsDelta-on_front, IsPhi-on_front}
use Rattle.certificate_checker.proofs.Common.{on_front-changes, IsOnFront-from_change, Reason, NoRows, FirstNotOne}
use Rattle.certificate_checker.proofs.Common.{NotRising, BeyondEnd, NotNonIncreasing, SameAsBefore, BadMiss, BadGap}
use Rattle.certificate_checker.proofs.Common.{DeltaFails, PhiFails, row_at, after_stretch, Serves, ShowsDelta, ShowsPhi}
use Rattle.certificate_checker.proofs.Common.{HasTwoRows, Stands}
use Rattle.certificate_checker.proofs.LeastBounds.{least_bounds}
use Rattle.certificate_checker.proofs.RowPlaces.{row_at-from_Contains, later_above}
use Rattle.certificate_checker.proofs.Stretches.{AreInOrder, begins_within, served_within, begins_outside}

-- the rows rise, and their triples are the front
pub record AreTheFront (set : ℕ) (trace : Recorded) (rows : List Row) : Type 0 where
  pub rising : IsStrictlyIncreasing (map (λ r. r.gst) rows)
  pub sound : (r : Row) → Contains rows r → IsOnFront set trace (triple_of r)
  pub complete : (t : Triple) → IsOnFront set trace t → Contains (map triple_of rows) t

front_row : (set : ℕ) (trace : Recorded) (rows : List Row) (k : ℕ) (r : Row)
    → AreTheFront set trace rows → row_at rows k ≡ Some r → IsOnFront set trace (triple_of r)
front_row set trace rows k r are here = are.sound r (Contains-row_at rows k r here)

-- the row of a triple of the front
row_of_front : (set : ℕ) (trace : Recorded) (rows : List Row) (t : Triple)
    → AreTheFront set trace rows → IsOnFront set trace t → (k : ℕ) × (r : Row) × (row_at rows k ≡ Some r) × (r.gst ≡ t.gst)
row_of_front set trace rows t are front =
    let member = Contains-from_map triple_of rows t (are.complete t front) in
    let place = row_at-from_Contains rows member.0 member.1 in
    (place.0, member.0, place.1, ap (λ (x : Triple). x.gst) member.2)

-- if there are ticks, a row begins in the first
row_of_one : (set : ℕ) (trace : Recorded) (rows : List Row) → AreTheFront set trace rows → 1 ≤ trace.last
    → ((k : ℕ) (r : Row) → row_at rows k ≡ Some r → r.gst ≡ 1 → ⊥) → ⊥
row_of_one set trace rows are some none = least_bounds set trace 1 (omega arith) (λ d f delta phi.
    let t : Triple = record { gst = 1; delta = d; phi = f } in
    let row = row_of_front set trace rows t are
    (IsOnFront-from_change set trace t (omega arith) some delta phi (λ later a b. absurd (omega (arith, later)))) in
    none row.0 row.1 row.2 row.3)

AreInOrder-front : (set : ℕ) (trace : Recorded) (rows : List Row) → AreTheFront set trace rows → AreInOrder trace.last rows
AreInOrder-front set trace rows are = record {
  some = λ l. some rows (row_of_one set trace rows are l);
  first = λ r here.
      let feasible = (front_row set trace rows 1 r are here).feasible in
      let start = feasible.start in
      let end = feasible.end in
      elim (cases_eq r.gst 1) [
        | inl one ↦ one
        | inr other ↦ absurd (row_of_one set trace rows are (omega (arith, start, end))
            (λ k o there one. other (first r here start k o there one)))
      ];
  rising = are.rising;
  end = λ k r here. (front_row set trace rows k r are here).feasible.end;
} where
  some : (rs : List Row) → (((k : ℕ) (r : Row) → row_at rs k ≡ Some r → r.gst ≡ 1 → ⊥) → ⊥) → (r : Row) × (row_at rs 1 ≡ Some r)
  some [] found = absurd (found (λ k r here one. Contains-nil r (Contains-row_at [] k r here)))
  some (x ∷ rest) found = (x, refl)

  first : (r : Row) → row_at rows 1 ≡ Some r → 1 ≤ r.gst → (k : ℕ) (o : Row) → row_at rows k ≡ Some o → o.gst ≡ 1 → r.gst ≡ 1
  first r here start zero o there one = absurd (none-some o there)
  first r here start (suc zero) o there one = ap (λ (x : Row). x.gst) (same_Some r o (sym here ∙ there)) ∙ one
  first r here start (suc (suc k)) o there one =
      let l = later_above rows 1 (suc (suc k)) r o are.rising here there (omega arith) in
      absurd (omega (arith, l, one, start))

-- the least bounds of a row are those of each tick of its stretch
pub record AreLeast (set : ℕ) (trace : Recorded) (r : Row) (g : ℕ) : Type 0 where
  pub delta : IsDelta set trace g r.delta
  pub phi : IsPhi set trace g r.phi

-- they are those of the tick after g too, since no row begins there
least_after : (set : ℕ) (trace : Recorded) (rows : List Row) (k : ℕ) (r : Row) (g : ℕ) → AreTheFront set trace rows
    → Serves rows trace.last k r (suc g) → r.gst ≤ g → AreLeast set trace r g → AreLeast set trace r (suc g)
least_after set trace rows k r g are serves begun least = record {
  delta = record {
    positive = least.delta.positive;
    holds = DeltaHolds-later set trace g (suc g) r.delta (omega arith) least.delta.holds;
    least = λ e p h. elim (cases_lt e r.delta) [
      | inl l ↦ absurd (least_bounds set trace (suc g) (omega arith) (λ d f delta phi.
          no_other d f delta phi (λ same. omega (arith, same.0, delta.least e p h, l))))
      | inr l ↦ l
    ];
  };
  phi = record {
    positive = least.phi.positive;
    holds = PhiHolds-later set trace g (suc g) r.phi (omega arith) least.phi.holds;
    least = λ e p h. elim (cases_lt e r.phi) [
      | inl l ↦ absurd (least_bounds set trace (suc g) (omega arith) (λ d f delta phi.
          no_other d f delta phi (λ same. omega (arith, same.1, phi.least e p h, l))))
      | inr l ↦ l
    ];
  };
} where
  order : AreInOrder trace.last rows
  order = AreInOrder-front set trace rows are

  no_other : (d f : ℕ) → IsDelta set trace (suc g) d → IsPhi set trace (suc g) f → ((d ≡ r.delta) × (f ≡ r.phi) → ⊥) → ⊥
  no_other d f delta phi other =
      let t : Triple = record { gst = suc g; delta = d; phi = f } in
      let e : suc g - 1 ≡ g = omega arith in
      let front = IsOnFront-from_change set trace t
      (omega arith) (served_within rows trace.last k r (suc g) order serves) delta phi (λ later a b. other (
        IsLeastBound-unique (DeltaHolds set trace g) d r.delta (rw e at a) least.delta,
        IsLeastBound-unique (PhiHolds set trace g) f r.phi (rw e at b) least.phi,
      )) in
      let row = row_of_front set trace rows t are front in
      let gst = row.3 in
      let until = serves.until in
      begins_outside rows trace.last k row.0 r row.1 order serves.row row.2 (omega (arith, gst, begun)) (omega (arith, gst, until))

pub least_served : (set : ℕ) (trace : Recorded) (rows : List Row) (k : ℕ) (r : Row) (g : ℕ)
    → AreTheFront set trace rows → Serves rows trace.last k r g → AreLeast set trace r g
least_served set trace rows k r zero are serves = absurd (
    let start = (front_row set trace rows k r are serves.row).feasible.start in
    omega (arith, start, serves.from))
least_served set trace rows k r (suc g) are serves = elim (cases_eq r.gst (suc g)) [
  | inl e ↦ (let front = front_row set trace rows k r are serves.row in
      record {
        delta = subst (λ x. IsDelta set trace x r.delta) e (IsDelta-on_front set trace (triple_of r) front);
        phi = subst (λ x. IsPhi set trace x r.phi) e (IsPhi-on_front set trace (triple_of r) front);
      })
  | inr d ↦ (
      let until = serves.until in
      let begun : r.gst ≤ g = omega (arith, serves.from, d) in
      let before : Serves rows trace.last k r g = record { row = serves.row; from = begun; until = omega (arith, until) } in
      least_after set trace rows k r g are serves begun (least_served set trace rows k r g are before))
]

-- the last tick of a row's stretch
pub last_served : (set : ℕ) (trace : Recorded) (rows : List Row) (k : ℕ) (r : Row) → AreTheFront set trace rows
    → row_at rows k ≡ Some r → (h : ℕ) × Serves rows trace.last k r h × (after_stretch rows trace.last k ≡ h + 1)
last_served set trace rows k r are here =
    let own = begins_within rows trace.last k r (AreInOrder-front set trace rows are) here in
    let until = own.until in (
      after_stretch rows trace.last k - 1,
      record { row = here; from = omega (arith, until); until = omega (arith, until) },
      omega (arith, until),
    )

-- a row begins after the row before it
follows : (set : ℕ) (trace : Recorded) (rows : List Row) (k : ℕ) (a : HasTwoRows rows k)
    → AreTheFront set trace rows → a.before.gst < a.row.gst
follows set trace rows zero a are = absurd (none-some a.row a.here)
follows set trace rows (suc k) a are = let e : suc k - 1 ≡ k = omega arith in
    later_above rows k (suc k) a.before a.row are.rising (rw e at a.there) a.here (omega arith)

-- no reason holds against the rows of the front if their witnesses show, all over each stretch, that no smaller
-- positive bounds hold
pub IsUnopposed-front : (set : ℕ) (trace : Recorded) (rows : List Row) → AreTheFront set trace rows
    → ((k : ℕ) (r : Row) → row_at rows k ≡ Some r → ShowsDelta set trace (after_stretch rows trace.last k) r.delta r.miss)
    → ((k : ℕ) (r : Row) → row_at rows k ≡ Some r → ShowsPhi set trace (after_stretch rows trace.last k) r.phi r.gap)
    → (w : Reason) → ¬ Stands set trace rows w
IsUnopposed-front set trace rows are misses gaps NoRows s = row_of_one set trace rows are s.1
    (λ k r here one. Contains-nil r (subst (λ (rs : List Row). Contains rs r) s.0 (Contains-row_at rows k r here)))
IsUnopposed-front set trace rows are misses gaps FirstNotOne s = s.1 ((AreInOrder-front set trace rows are).first s.0.row s.0.here)
IsUnopposed-front set trace rows are misses gaps (NotRising k) s =
    let l = follows set trace rows k s.0 are in let m = s.1 in absurd (omega (arith, l, m))
IsUnopposed-front set trace rows are misses gaps (BeyondEnd k) s =
    let l = (AreInOrder-front set trace rows are).end k s.0.row s.0.here in let m = s.1 in absurd (omega (arith, l, m))
IsUnopposed-front set trace rows are misses gaps (NotNonIncreasing k) s =
    let before = front_row set trace rows (k - 1) s.0.before are s.0.there in
    let here = front_row set trace rows k s.0.row are s.0.here in
    let l = follows set trace rows k s.0 are in
    elim s.1 [
      | inl greater ↦ absurd
          (let low = (IsDelta-on_front set trace (triple_of s.0.row) here).least s.0.before.delta
          before.feasible.delta_positive
          (DeltaHolds-later set trace s.0.before.gst s.0.row.gst s.0.before.delta
          (omega (arith, l)) before.feasible.delta) in omega (arith, greater, low))
      | inr greater ↦ absurd
          (let low = (IsPhi-on_front set trace (triple_of s.0.row) here).least s.0.before.phi
          before.feasible.phi_positive (PhiHolds-later set trace s.0.before.gst s.0.row.gst s.0.before.phi
          (omega (arith, l)) before.feasible.phi) in omega (arith, greater, low))
    ]
IsUnopposed-front set trace rows are misses gaps (SameAsBefore k) s =
    let before = front_row set trace rows (k - 1) s.0.before are s.0.there in
    let here = front_row set trace rows k s.0.row are s.0.here in
    on_front-changes set trace (triple_of s.0.row) s.0.before.gst here before.feasible.start (follows set trace rows k s.0 are)
    (subst (IsDelta set trace s.0.before.gst) (sym s.1) (IsDelta-on_front set trace (triple_of s.0.before) before))
    (subst (IsPhi set trace s.0.before.gst) (sym s.2) (IsPhi-on_front set trace (triple_of s.0.before) before))
IsUnopposed-front set trace rows are misses gaps (BadMiss k) s = s.1 (misses k s.0.row s.0.here)
IsUnopposed-front set trace rows are misses gaps (BadGap k) s = s.1 (gaps k s.0.row s.0.here)
IsUnopposed-front set trace rows are misses gaps (DeltaFails k m) s = s.1 (front_row set trace rows k s.0.row are s.0.here).feasible.delta
IsUnopposed-front set trace rows are misses gaps (PhiFails k w) s = s.1 (front_row set trace rows k s.0.row are s.0.here).feasible.phi
