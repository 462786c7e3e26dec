-- Rows that no reason refutes are the certificates that name nothing beside the bound 1.
use Rattle.std.proofs.Common.{ℕ, ◌≡◌, ◌+◌, ◌-◌, ◌<◌, inl, inr, List, Option, Some, None, refl, arith}
use Rattle.std.proofs.lemmas.Bool.{cases_lt, cases_eq}
use Rattle.step_trace.proofs.ReportRows.{Contains-row_at}
use Rattle.certificate_checker.proofs.Common.{Miss, Gap, Row, Recorded, tick_of, IsDelta, IsPhi, MissRefutes}
use Rattle.certificate_checker.proofs.Common.{GapRefutes, MissRefutes-sound, GapRefutes-sound, Reason, row_at}
use Rattle.certificate_checker.proofs.Common.{after_stretch, ShowsDelta, ShowsPhi, Certifies, NamesNothingBesideOne}
use Rattle.certificate_checker.proofs.Common.{Stands}
use Rattle.certificate_checker.proofs.RowPlaces.{row_at-from_Contains}
use Rattle.certificate_checker.proofs.FrontRows.{AreTheFront, last_served, least_served, IsUnopposed-front}
use Rattle.certificate_checker.proofs.Soundness.{IsSupported-unopposed}

-- for the bound 1 only nothing shows anything
ShowsDelta-at_one : (set : ℕ) (trace : Recorded) (after d : ℕ) (o : Option Miss) → ShowsDelta set trace after d o → d ≡ 1 → o ≡ None
ShowsDelta-at_one set trace after d None s e = refl
ShowsDelta-at_one set trace after d (Some m) s e = absurd (let l = s.0 in omega (arith, l, e))

ShowsPhi-at_one : (set : ℕ) (trace : Recorded) (after f : ℕ) (o : Option Gap) → ShowsPhi set trace after f o → f ≡ 1 → o ≡ None
ShowsPhi-at_one set trace after f None s e = refl
ShowsPhi-at_one set trace after f (Some w) s e = absurd (let l = s.0 in omega (arith, l, e))

-- rows that no reason refutes name nothing beside 1
pub NamesNothingBesideOne-unopposed : (set : ℕ) (trace : Recorded) (rows : List Row)
    → ((w : Reason) → ¬ Stands set trace rows w) → NamesNothingBesideOne rows
NamesNothingBesideOne-unopposed set trace rows nothing = record {
  miss = λ r c one.
      let place = row_at-from_Contains rows r c in
      ShowsDelta-at_one set trace (after_stretch rows trace.last place.0) r.delta r.miss
      (IsSupported-unopposed set trace rows place.0 r nothing place.1).miss one;
  gap = λ r c one.
      let place = row_at-from_Contains rows r c in
      ShowsPhi-at_one set trace (after_stretch rows trace.last place.0) r.phi r.gap
      (IsSupported-unopposed set trace rows place.0 r nothing place.1).gap one;
}

-- a miss that refutes, from tick h, the bound that is one smaller than the least, shows that it is the least there
ShowsDelta-refuting : (set : ℕ) (trace : Recorded) (h d : ℕ) (m : Miss)
    → 1 < d → IsDelta set trace h d → MissRefutes set trace h (d - 1) m → ShowsDelta set trace (h + 1) d (Some m)
ShowsDelta-refuting set trace h d m more least refutes =
    let from = refutes.from in
    let short : tick_of trace m.missed < tick_of trace m.sent + d = elim (cases_lt (tick_of trace m.missed) (tick_of trace m.sent + d)) [
      | inl l ↦ l
      | inr longer ↦ absurd (MissRefutes-sound set trace h d m (record { miss = refutes.miss; from = from; long = longer }) least.holds)
    ] in
    (more, refutes.miss, omega (arith, refutes.long, short, more), omega (arith, from))

-- and so does a gap
ShowsPhi-refuting : (set : ℕ) (trace : Recorded) (h f : ℕ) (w : Gap)
    → 1 < f → IsPhi set trace h f → GapRefutes set trace h (f - 1) w → ShowsPhi set trace (h + 1) f (Some w)
ShowsPhi-refuting set trace h f w more least refutes =
    let from = refutes.from in
    let short : w.to + 1 < w.from + f = elim (cases_lt (w.to + 1) (w.from + f)) [
      | inl l ↦ l
      | inr longer ↦ absurd (GapRefutes-sound set trace h f w (record { gap = refutes.gap; from = from; long = longer }) least.holds)
    ] in
    (more, refutes.gap, omega (arith, refutes.long, short, more), omega (arith, from))

AreTheFront-certified : (set : ℕ) (trace : Recorded) (rows : List Row) → Certifies set trace rows → AreTheFront set trace rows
AreTheFront-certified set trace rows certified =
    record { rising = certified.rising; sound = certified.sound; complete = certified.complete }

-- the witnesses of a certificate show, all over each stretch, that no smaller positive bounds hold
ShowsDelta-certified : (set : ℕ) (trace : Recorded) (rows : List Row) (k : ℕ) (r : Row) → Certifies set trace rows
    → NamesNothingBesideOne rows → row_at rows k ≡ Some r → ShowsDelta set trace (after_stretch rows trace.last k) r.delta r.miss
ShowsDelta-certified set trace rows k r certified sparing here =
    let are = AreTheFront-certified set trace rows certified in
    let (h, serves, after) = last_served set trace rows k r are here in
    let least = (least_served set trace rows k r h are serves).delta in
    let positive = least.positive in
    elim (cases_eq r.delta 1) [
      | inl one ↦ rw (sparing.miss r (Contains-row_at rows k r here) one) one
      | inr more ↦ (
          let (m, named, refutes) = certified.miss k h (r.delta - 1) r serves (omega (arith, positive, more)) (omega (arith, positive)) in
          rw (named, after) (ShowsDelta-refuting set trace h r.delta m (omega (arith, positive, more)) least refutes))
    ]

ShowsPhi-certified : (set : ℕ) (trace : Recorded) (rows : List Row) (k : ℕ) (r : Row) → Certifies set trace rows
    → NamesNothingBesideOne rows → row_at rows k ≡ Some r → ShowsPhi set trace (after_stretch rows trace.last k) r.phi r.gap
ShowsPhi-certified set trace rows k r certified sparing here =
    let are = AreTheFront-certified set trace rows certified in
    let (h, serves, after) = last_served set trace rows k r are here in
    let least = (least_served set trace rows k r h are serves).phi in
    let positive = least.positive in
    elim (cases_eq r.phi 1) [
      | inl one ↦ rw (sparing.gap r (Contains-row_at rows k r here) one) one
      | inr more ↦ (
          let (w, named, refutes) = certified.gap k h (r.phi - 1) r serves (omega (arith, positive, more)) (omega (arith, positive)) in
          rw (named, after) (ShowsPhi-refuting set trace h r.phi w (omega (arith, positive, more)) least refutes))
    ]

-- no reason holds against a certificate that names nothing beside 1
pub IsUnopposed-certified : (set : ℕ) (trace : Recorded) (rows : List Row)
    → Certifies set trace rows → NamesNothingBesideOne rows → (w : Reason) → ¬ Stands set trace rows w
IsUnopposed-certified set trace rows certified sparing = IsUnopposed-front set trace rows (AreTheFront-certified set trace rows certified)
    (λ k r here. ShowsDelta-certified set trace rows k r certified sparing here)
    (λ k r here. ShowsPhi-certified set trace rows k r certified sparing here)
