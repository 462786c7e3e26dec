-- Whether the witness beside a bound shows that no smaller positive bound holds: this is decided, and it does.
use Rattle.std.proofs.Common.{ℕ, ◌≡◌, ◌+◌, ◌<◌, ◌≤◌, ◌⊎◌, inl, inr, Option, Some, None, refl, arith}
use Rattle.std.proofs.lemmas.Bool.{cases_lt, cases_eq}
use Rattle.step_trace.proofs.BoundDecisions.{below}
use Rattle.certificate_checker.proofs.Common.{Miss, Gap, Recorded, tick_of, DeltaHolds, PhiHolds, IsDelta, IsPhi, MissRefutes, GapRefutes, MissRefutes-sound, GapRefutes-sound, ShowsDelta, ShowsPhi}
use Rattle.certificate_checker.proofs.WitnessDecisions.{all_or_not, at_most_or_not, miss_or_not, gap_or_not}

pub ShowsDelta-or_not : (set : ℕ) (trace : Recorded) (after d : ℕ) (o : Option Miss)
    → ShowsDelta set trace after d o ⊎ (¬ ShowsDelta set trace after d o)
ShowsDelta-or_not set trace after d None = cases_eq d 1
ShowsDelta-or_not set trace after d (Some m) =
    all_or_not (below 1 d) (miss_or_not set trace m)
    (cases_eq (tick_of trace m.sent + d) (tick_of trace m.missed + 1)) (at_most_or_not after (tick_of trace m.sent + 1))

pub ShowsPhi-or_not : (set : ℕ) (trace : Recorded) (after f : ℕ) (o : Option Gap)
    → ShowsPhi set trace after f o ⊎ (¬ ShowsPhi set trace after f o)
ShowsPhi-or_not set trace after f None = cases_eq f 1
ShowsPhi-or_not set trace after f (Some w) =
    all_or_not (below 1 f) (gap_or_not set trace w) (cases_eq (w.from + f) (w.to + 2)) (at_most_or_not after (w.from + 1))

-- a bound for which something shows so is positive
pub ShowsDelta-positive : (set : ℕ) (trace : Recorded) (after d : ℕ) (o : Option Miss) → ShowsDelta set trace after d o → 1 ≤ d
ShowsDelta-positive set trace after d None s = omega (arith, s)
ShowsDelta-positive set trace after d (Some m) s = let l = s.0 in omega (arith, l)

pub ShowsPhi-positive : (set : ℕ) (trace : Recorded) (after f : ℕ) (o : Option Gap) → ShowsPhi set trace after f o → 1 ≤ f
ShowsPhi-positive set trace after f None s = omega (arith, s)
ShowsPhi-positive set trace after f (Some w) s = let l = s.0 in omega (arith, l)

-- from each tick before `after` it refutes every smaller positive bound
pub ShowsDelta-refutes : (set : ℕ) (trace : Recorded) (after d : ℕ) (o : Option Miss)
    → ShowsDelta set trace after d o → (g e : ℕ) → g < after → 1 ≤ e → e < d → (m : Miss) × (o ≡ Some m) × MissRefutes set trace g e m
ShowsDelta-refutes set trace after d None s g e before positive smaller = absurd (omega (arith, s, positive, smaller))
ShowsDelta-refutes set trace after d (Some m) s g e before positive smaller =
    (m, refl, record { miss = s.1; from = omega (arith, s.3, before); long = omega (arith, s.2, smaller) })

pub ShowsPhi-refutes : (set : ℕ) (trace : Recorded) (after f : ℕ) (o : Option Gap)
    → ShowsPhi set trace after f o → (g e : ℕ) → g < after → 1 ≤ e → e < f → (w : Gap) × (o ≡ Some w) × GapRefutes set trace g e w
ShowsPhi-refutes set trace after f None s g e before positive smaller = absurd (omega (arith, s, positive, smaller))
ShowsPhi-refutes set trace after f (Some w) s g e before positive smaller =
    (w, refl, record { gap = s.1; from = omega (arith, s.3, before); long = omega (arith, s.2, smaller) })

-- so from each tick before `after` the bound is the least, if it holds there
pub IsDelta-shown : (set : ℕ) (trace : Recorded) (after d g : ℕ) (o : Option Miss)
    → ShowsDelta set trace after d o → g < after → DeltaHolds set trace g d → IsDelta set trace g d
IsDelta-shown set trace after d g o s before holds = record {
  positive = ShowsDelta-positive set trace after d o s;
  holds = holds;
  least = λ e p h. elim (cases_lt e d) [
    | inr m ↦ m
    | inl l ↦ (let r = ShowsDelta-refutes set trace after d o s g e before p l in absurd (MissRefutes-sound set trace g e r.0 r.2 h))
  ];
}

pub IsPhi-shown : (set : ℕ) (trace : Recorded) (after f g : ℕ) (o : Option Gap)
    → ShowsPhi set trace after f o → g < after → PhiHolds set trace g f → IsPhi set trace g f
IsPhi-shown set trace after f g o s before holds = record {
  positive = ShowsPhi-positive set trace after f o s;
  holds = holds;
  least = λ e p h. elim (cases_lt e f) [
    | inr m ↦ m
    | inl l ↦ (let r = ShowsPhi-refutes set trace after f o s g e before p l in absurd (GapRefutes-sound set trace g e r.0 r.2 h))
  ];
}
