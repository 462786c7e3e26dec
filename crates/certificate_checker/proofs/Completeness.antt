-- No reason holds against the report.
use Rattle.std.proofs.Common.{ℕ, ◌≡◌, ◌+◌, ◌-◌, ◌<◌, ◌≤◌, inl, inr, List, Option, Some, None, arith}
use Rattle.std.proofs.lemmas.Bool.{cases_lt}
use Rattle.step_trace.proofs.ReportRows.{Contains-row_at}
use Rattle.certificate_checker.proofs.Common.{Miss, Gap, Row, Recorded, tick_of, DeltaHolds, PhiHolds, IsDelta, IsPhi}
use Rattle.certificate_checker.proofs.Common.{NamesMiss, NamesGap, IsReport, MissRefutes-sound, GapRefutes-sound}
use Rattle.certificate_checker.proofs.Common.{DeltaHolds-unrefuted, PhiHolds-unrefuted, Reason, row_at, after_stretch}
use Rattle.certificate_checker.proofs.Common.{ShowsDelta, ShowsPhi, Stands}
use Rattle.certificate_checker.proofs.FrontRows.{AreTheFront, last_served, least_served, IsUnopposed-front}

AreTheFront-report : (set : ℕ) (trace : Recorded) (rows : List Row) → IsReport set trace rows → AreTheFront set trace rows
AreTheFront-report set trace rows report =
    record { rising = report.rising; sound = λ r c. (report.sound r c).front; complete = report.complete }

-- the named miss of a row is of a message that is sent at the end of its stretch or later
ShowsDelta-named : (set : ℕ) (trace : Recorded) (g h d : ℕ) (o : Option Miss)
    → g ≤ h → IsDelta set trace h d → NamesMiss set trace g d o → ShowsDelta set trace (h + 1) d o
ShowsDelta-named set trace g h d None l least names = names
ShowsDelta-named set trace g h d (Some m) l least names = (names.0, names.1.miss, names.1.long, reaches) where
  holds : tick_of trace m.sent < h → DeltaHolds set trace h (d - 1)
  holds early = DeltaHolds-unrefuted set trace h (d - 1) (omega (arith, names.0)) (λ x refutes.
      let from = refutes.from in
      let long = refutes.long in
      elim (cases_lt (tick_of trace x.missed) (tick_of trace x.sent + d)) [
        | inr longer ↦ MissRefutes-sound set trace h d x (record { miss = refutes.miss; from = from; long = longer }) least.holds
        | inl short ↦ (
            let latest = names.1.latest x refutes.miss (omega (arith, l, from)) (omega (arith, short, long, names.0)) in
            omega (arith, latest, from, early))
      ])

  reaches : h + 1 ≤ tick_of trace m.sent + 1
  reaches = elim (cases_lt (tick_of trace m.sent) h) [
    | inl early ↦ absurd (omega (arith, least.least (d - 1) (omega (arith, names.0)) (holds early), names.0))
    | inr late ↦ omega (arith, late)
  ]

ShowsPhi-named : (set : ℕ) (trace : Recorded) (g h f : ℕ) (o : Option Gap)
    → 1 ≤ g → g ≤ h → IsPhi set trace h f → NamesGap set trace g f o → ShowsPhi set trace (h + 1) f o
ShowsPhi-named set trace g h f None start l least names = names
ShowsPhi-named set trace g h f (Some w) start l least names = (names.0, names.1.gap, names.1.long, reaches) where
  holds : w.from < h → PhiHolds set trace h (f - 1)
  holds early = PhiHolds-unrefuted set trace h (f - 1) (omega (arith, start, l)) (omega (arith, names.0)) (λ x refutes.
      let from = refutes.from in
      let long = refutes.long in
      elim (cases_lt (x.to + 1) (x.from + f)) [
        | inr longer ↦ GapRefutes-sound set trace h f x (record { gap = refutes.gap; from = from; long = longer }) least.holds
        | inl short ↦ (
            let latest = names.1.greatest x refutes.gap (omega (arith, l, from)) (omega (arith, short, long, names.0)) in
            omega (arith, latest, from, early))
      ])

  reaches : h + 1 ≤ w.from + 1
  reaches = elim (cases_lt w.from h) [
    | inl early ↦ absurd (omega (arith, least.least (f - 1) (omega (arith, names.0)) (holds early), names.0))
    | inr late ↦ omega (arith, late)
  ]

-- the witnesses of a report show, all over each stretch, that no smaller positive bounds hold
ShowsDelta-report : (set : ℕ) (trace : Recorded) (rows : List Row) (k : ℕ) (r : Row) → IsReport set trace rows
    → row_at rows k ≡ Some r → ShowsDelta set trace (after_stretch rows trace.last k) r.delta r.miss
ShowsDelta-report set trace rows k r report here =
    let (h, serves, after) = last_served set trace rows k r (AreTheFront-report set trace rows report) here in
    let least = least_served set trace rows k r h (AreTheFront-report set trace rows report) serves in
    rw after
    (ShowsDelta-named set trace r.gst h r.delta r.miss serves.from least.delta (report.sound r (Contains-row_at rows k r here)).miss)

ShowsPhi-report : (set : ℕ) (trace : Recorded) (rows : List Row) (k : ℕ) (r : Row)
    → IsReport set trace rows → row_at rows k ≡ Some r → ShowsPhi set trace (after_stretch rows trace.last k) r.phi r.gap
ShowsPhi-report set trace rows k r report here =
    let (h, serves, after) = last_served set trace rows k r (AreTheFront-report set trace rows report) here in
    let least = least_served set trace rows k r h (AreTheFront-report set trace rows report) serves in
    let row = report.sound r (Contains-row_at rows k r here) in
    rw after (ShowsPhi-named set trace r.gst h r.phi r.gap row.front.feasible.start serves.from least.phi row.gap)

-- no reason holds against the report
pub IsUnopposed-report : (set : ℕ) (trace : Recorded) (rows : List Row) → IsReport set trace rows → (w : Reason) → ¬ Stands set trace rows w
IsUnopposed-report set trace rows report = IsUnopposed-front set trace rows (AreTheFront-report set trace rows report)
    (λ k r here. ShowsDelta-report set trace rows k r report here) (λ k r here. ShowsPhi-report set trace rows k r report here)
