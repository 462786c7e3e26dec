-- Rows against which no reason holds certify themselves.
use Rattle.std.proofs.Common.{ℕ, ◌≡◌, ◌-◌, ◌<◌, ◌≤◌, inl, inr, List, [], ◌∷◌, map, Contains, Some, refl, subst, suc, zero, arith}
use Rattle.std.proofs.lemmas.Bool.{cases_lt, cases_eq}
use Rattle.std.proofs.lemmas.Option.{none-some}
use Rattle.step_trace.proofs.ReportRows.{Contains-row_at}
use Rattle.certificate_checker.proofs.Common.{Row, Recorded, DeltaHolds, PhiHolds, IsDelta, IsPhi, Triple, IsOnFront}
use Rattle.certificate_checker.proofs.Common.{triple_of, Contains-map, DeltaHolds-unrefuted, PhiHolds-unrefuted}
use Rattle.certificate_checker.proofs.Common.{DeltaHolds-later, PhiHolds-later, MissRefutes-sound, GapRefutes-sound}
use Rattle.certificate_checker.proofs.Common.{IsLeastBound-unique, IsDelta-on_front, IsPhi-on_front, on_front-changes}
use Rattle.certificate_checker.proofs.Common.{IsOnFront-from_change, Reason, NoRows, FirstNotOne, NotRising, BeyondEnd}
use Rattle.certificate_checker.proofs.Common.{SameAsBefore, BadMiss, BadGap, DeltaFails, PhiFails, row_at}
use Rattle.certificate_checker.proofs.Common.{after_stretch, Serves, ShowsDelta, ShowsPhi, Certifies, HasRow, Stands}
use Rattle.certificate_checker.proofs.LongestOrNone.{no_miss, no_gap}
use Rattle.certificate_checker.proofs.RowPlaces.{row_at-from_Contains, row_before, two_rows, later_above, rising-from_next}
use Rattle.certificate_checker.proofs.Stretches.{AreInOrder, begins_within, serving_row, serves_before}
use Rattle.certificate_checker.proofs.ShownBounds.{ShowsDelta-or_not, ShowsPhi-or_not, ShowsDelta-positive, ShowsPhi-positive, ShowsDelta-refutes, ShowsPhi-refutes, IsDelta-shown, IsPhi-shown}

-- no reason holds against the rows
abbrev IsUnopposed : ℕ → Recorded → List Row → Type 0
IsUnopposed set trace rows = (w : Reason) → ¬ Stands set trace rows w

AreInOrder-unopposed : (set : ℕ) (trace : Recorded) (rows : List Row) → IsUnopposed set trace rows → AreInOrder trace.last rows
AreInOrder-unopposed set trace rows nothing = record {
  some = some rows nothing;
  first = λ r e. elim (cases_eq r.gst 1) [ inl one ↦ one | inr other ↦ absurd (nothing FirstNotOne (record { row = r; here = e }, other)) ];
  rising = rising-from_next rows
      (λ k a b p q. elim (cases_lt a.gst b.gst) [ inl l ↦ l | inr m ↦ absurd (nothing (NotRising (suc k)) (two_rows rows k a b p q, m)) ]);
  end = λ k r e. elim (cases_lt trace.last r.gst) [ inl l ↦ absurd (nothing (BeyondEnd k) (record { row = r; here = e }, l)) | inr m ↦ m ];
} where
  some : (rs : List Row) → IsUnopposed set trace rs → 1 ≤ trace.last → (r : Row) × (row_at rs 1 ≡ Some r)
  some [] n l = absurd (n NoRows (refl, l))
  some (r ∷ rest) n l = (r, refl)

-- the bounds of a row hold from its beginning, and its witnesses show that no smaller positive ones do
pub record IsSupported (set : ℕ) (trace : Recorded) (rows : List Row) (k : ℕ) (r : Row) : Type 0 where
  pub miss : ShowsDelta set trace (after_stretch rows trace.last k) r.delta r.miss
  pub gap : ShowsPhi set trace (after_stretch rows trace.last k) r.phi r.gap
  pub delta : DeltaHolds set trace r.gst r.delta
  pub phi : PhiHolds set trace r.gst r.phi

-- rows in order begin in tick 1 or later
begins_late : (set : ℕ) (trace : Recorded) (rows : List Row) (k : ℕ) (r : Row)
    → AreInOrder trace.last rows → row_at rows k ≡ Some r → 1 ≤ r.gst
begins_late set trace rows zero r order here = absurd (none-some r here)
begins_late set trace rows (suc zero) r order here = let e = order.first r here in omega (arith, e)
begins_late set trace rows (suc (suc k)) r order here =
    let before = row_before rows k r here in
    let l = later_above rows (suc k) (suc (suc k)) before.0 r order.rising before.1 here (omega arith) in
    omega (arith, l)

pub IsSupported-unopposed : (set : ℕ) (trace : Recorded) (rows : List Row) (k : ℕ) (r : Row)
    → IsUnopposed set trace rows → row_at rows k ≡ Some r → IsSupported set trace rows k r
IsSupported-unopposed set trace rows k r nothing here = record {
  miss = miss;
  gap = gap;
  delta = DeltaHolds-unrefuted set trace r.gst r.delta (ShowsDelta-positive set trace after r.delta r.miss miss) (λ m refutes.
      no_miss set trace r.gst
      (λ o longest. nothing (DeltaFails k o) (row, MissRefutes-sound set trace r.gst r.delta m refutes, longest))
      m refutes.miss refutes.from);
  phi = PhiHolds-unrefuted set trace r.gst r.phi late (ShowsPhi-positive set trace after r.phi r.gap gap) (λ w refutes.
      no_gap set trace r.gst
      (λ o longest. nothing (PhiFails k o) (row, GapRefutes-sound set trace r.gst r.phi w refutes, longest))
      w refutes.gap refutes.from);
} where
  row : HasRow rows k
  row = record { row = r; here = here }

  late : 1 ≤ r.gst
  late = begins_late set trace rows k r (AreInOrder-unopposed set trace rows nothing) here

  after : ℕ
  after = after_stretch rows trace.last k

  miss : ShowsDelta set trace (after_stretch rows trace.last k) r.delta r.miss
  miss = elim (ShowsDelta-or_not set trace (after_stretch rows trace.last k) r.delta r.miss)
      [ inl s ↦ s | inr n ↦ absurd (nothing (BadMiss k) (row, n)) ]

  gap : ShowsPhi set trace (after_stretch rows trace.last k) r.phi r.gap
  gap = elim (ShowsPhi-or_not set trace (after_stretch rows trace.last k) r.phi r.gap)
      [ inl s ↦ s | inr n ↦ absurd (nothing (BadGap k) (row, n)) ]

-- from each tick that a row applies to, its bounds are the least
delta_served : (set : ℕ) (trace : Recorded) (rows : List Row) (k : ℕ) (r : Row) (g : ℕ)
    → IsUnopposed set trace rows → Serves rows trace.last k r g → IsDelta set trace g r.delta
delta_served set trace rows k r g nothing serves =
    let s = IsSupported-unopposed set trace rows k r nothing serves.row in
    IsDelta-shown set trace (after_stretch rows trace.last k) r.delta g r.miss s.miss serves.until
    (DeltaHolds-later set trace r.gst g r.delta serves.from s.delta)

phi_served : (set : ℕ) (trace : Recorded) (rows : List Row) (k : ℕ) (r : Row) (g : ℕ)
    → IsUnopposed set trace rows → Serves rows trace.last k r g → IsPhi set trace g r.phi
phi_served set trace rows k r g nothing serves =
    let s = IsSupported-unopposed set trace rows k r nothing serves.row in
    IsPhi-shown set trace (after_stretch rows trace.last k) r.phi g r.gap s.gap serves.until
    (PhiHolds-later set trace r.gst g r.phi serves.from s.phi)

-- the triple of each row is on the front
row_on_front : (set : ℕ) (trace : Recorded) (rows : List Row) (k : ℕ) (r : Row)
    → IsUnopposed set trace rows → row_at rows k ≡ Some r → IsOnFront set trace (triple_of r)
row_on_front set trace rows k r nothing here =
    let order = AreInOrder-unopposed set trace rows nothing in
    let own = begins_within rows trace.last k r order here in
    IsOnFront-from_change set trace (triple_of r) (begins_late set trace rows k r order here) (order.end k r here)
    (delta_served set trace rows k r r.gst nothing own) (phi_served set trace rows k r r.gst nothing own) (change k here)
  where
    change : (j : ℕ) → row_at rows j ≡ Some r → 1 < r.gst → IsDelta set trace (r.gst - 1) r.delta → IsPhi set trace (r.gst - 1) r.phi → ⊥
    change zero e later delta phi = none-some r e
    change (suc zero) e later delta phi = let one = (AreInOrder-unopposed set trace rows nothing).first r e in
        absurd (omega (arith, one, later))
    change (suc (suc j)) e later delta phi =
        let order = AreInOrder-unopposed set trace rows nothing in
        let before = row_before rows j r e in
        let serves = serves_before rows trace.last (suc j) before.0 r order before.1 e in
        nothing (SameAsBefore (suc (suc j))) (
          two_rows rows (suc j) before.0 r before.1 e,
          IsLeastBound-unique (DeltaHolds set trace (r.gst - 1)) r.delta
              (before.0).delta delta (delta_served set trace rows (suc j) before.0 (r.gst - 1) nothing serves),
          IsLeastBound-unique (PhiHolds set trace (r.gst - 1)) r.phi
              (before.0).phi phi (phi_served set trace rows (suc j) before.0 (r.gst - 1) nothing serves),
        )

same_triple : (r : Row) (t : Triple) → r.gst ≡ t.gst → r.delta ≡ t.delta → r.phi ≡ t.phi → triple_of r ≡ t
same_triple r t gst delta phi = go r.gst r.delta r.phi gst delta phi where
  go : (g d f : ℕ) → g ≡ t.gst → d ≡ t.delta → f ≡ t.phi → record { gst = g; delta = d; phi = f } ≡ t
  go g d f a b c = rw (a, b, c) refl

-- each triple of the front is that of a row
front_in_rows : (set : ℕ) (trace : Recorded) (rows : List Row) (t : Triple)
    → IsUnopposed set trace rows → IsOnFront set trace t → Contains (map triple_of rows) t
front_in_rows set trace rows t nothing front = find (serving_row rows trace.last t.gst order front.feasible.start front.feasible.end) where
  order : AreInOrder trace.last rows
  order = AreInOrder-unopposed set trace rows nothing

  find : ((k : ℕ) × (r : Row) × Serves rows trace.last k r t.gst) → Contains (map triple_of rows) t
  find (k, r, serves) =
      let delta = IsLeastBound-unique (DeltaHolds set trace t.gst) r.delta t.delta
      (delta_served set trace rows k r t.gst nothing serves) (IsDelta-on_front set trace t front) in
      let phi = IsLeastBound-unique (PhiHolds set trace t.gst) r.phi t.phi
      (phi_served set trace rows k r t.gst nothing serves) (IsPhi-on_front set trace t front) in
      let own = begins_within rows trace.last k r order serves.row in
      elim (cases_eq r.gst t.gst) [
        | inl e ↦ subst (Contains (map triple_of rows))
            (same_triple r t e delta phi) (Contains-map triple_of rows r (Contains-row_at rows k r serves.row))
        | inr d ↦ absurd (on_front-changes set trace t r.gst front (begins_late set trace rows k r order serves.row) (let l = serves.from in
            omega (arith, l, d)) (subst (IsDelta set trace r.gst) delta (delta_served set trace rows k r r.gst nothing own))
            (subst (IsPhi set trace r.gst) phi (phi_served set trace rows k r r.gst nothing own)))
      ]

-- rows against which no reason holds certify themselves
pub Certifies-unopposed : (set : ℕ) (trace : Recorded) (rows : List Row) → IsUnopposed set trace rows → Certifies set trace rows
Certifies-unopposed set trace rows nothing = record {
  rising = (AreInOrder-unopposed set trace rows nothing).rising;
  sound = λ r c. let place = row_at-from_Contains rows r c in row_on_front set trace rows place.0 r nothing place.1;
  complete = λ t front. front_in_rows set trace rows t nothing front;
  miss = λ k g d r serves positive smaller.
      let s = IsSupported-unopposed set trace rows k r nothing serves.row in
      ShowsDelta-refutes set trace (after_stretch rows trace.last k) r.delta r.miss s.miss g d serves.until positive smaller;
  gap = λ k g f r serves positive smaller.
      let s = IsSupported-unopposed set trace rows k r nothing serves.row in
      ShowsPhi-refutes set trace (after_stretch rows trace.last k) r.phi r.gap s.gap g f serves.until positive smaller;
}
