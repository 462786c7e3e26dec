-- Which triples are on the front: those of a real-time step and its least bounds. The step is the first
-- one, or one of these bounds isn't the least one from the step before.
use Rattle.std.proofs.Common.{ℕ, zero, suc, ◌≡◌, ◌+◌, ◌-◌, ◌<◌, ◌≤◌, inl, inr, subst, arith}
use Rattle.std.proofs.lemmas.Bool.{cases_lt}
use Rattle.step_trace.specs.Traces.{Recorded}
use Rattle.step_trace.specs.Bounds.{DeltaHolds, PhiHolds, IsDelta, IsPhi}
use Rattle.step_trace.specs.Fronts.{Triple, IsFeasible, IsOnFront}
use Rattle.step_trace.proofs.BoundLaws.{DeltaHolds-later, PhiHolds-later}
use Rattle.step_trace.proofs.LeastBounds.{IsDelta-earlier, IsPhi-earlier}

-- the bounds of a triple on the front are the least ones
pub IsDelta-on_front : (set : ℕ) (trace : Recorded) (t : Triple) → IsOnFront set trace t → IsDelta set trace t.gst t.delta
IsDelta-on_front set trace t f = record {
  positive = f.feasible.delta_positive;
  holds = f.feasible.delta;
  least = λ e p h. elim (cases_lt e t.delta) [
    | inl l ↦ absurd (f.undominated (record { gst = t.gst; delta = e; phi = t.phi })
        (record {
          start = f.feasible.start;
          end = f.feasible.end;
          delta_positive = p;
          phi_positive = f.feasible.phi_positive;
          delta = h;
          phi = f.feasible.phi;
        }) (record { gst = omega arith; delta = omega arith; phi = omega arith; smaller = inr (inl l) }))
    | inr m ↦ m
  ];
}

pub IsPhi-on_front : (set : ℕ) (trace : Recorded) (t : Triple) → IsOnFront set trace t → IsPhi set trace t.gst t.phi
IsPhi-on_front set trace t f = record {
  positive = f.feasible.phi_positive;
  holds = f.feasible.phi;
  least = λ e p h. elim (cases_lt e t.phi) [
    | inl l ↦ absurd (f.undominated (record { gst = t.gst; delta = t.delta; phi = e })
        (record {
          start = f.feasible.start;
          end = f.feasible.end;
          delta_positive = f.feasible.delta_positive;
          phi_positive = p;
          delta = f.feasible.delta;
          phi = h;
        }) (record { gst = omega arith; delta = omega arith; phi = omega arith; smaller = inr (inr l) }))
    | inr m ↦ m
  ];
}

-- no triple of the front has the least bounds of the step before
pub on_front-changes : (set : ℕ) (trace : Recorded) (t : Triple) (h : ℕ) → IsOnFront set trace t → 1 ≤ h → h < t.gst
    → IsDelta set trace h t.delta → IsPhi set trace h t.phi → ⊥
on_front-changes set trace t h f p l d e = f.undominated (record { gst = h; delta = t.delta; phi = t.phi }) (record {
  start = p;
  end =
      let m = f.feasible.end in omega arith;
  delta_positive = d.positive;
  phi_positive = e.positive;
  delta = d.holds;
  phi = e.holds;
})
    (record { gst = omega arith; delta = omega arith; phi = omega arith; smaller = inl l })

-- a step and its least bounds are on the front, unless these are the least bounds of the step before
pub IsOnFront-from_change : (set : ℕ) (trace : Recorded) (t : Triple) → 1 ≤ t.gst → t.gst ≤ trace.last
    → IsDelta set trace t.gst t.delta → IsPhi set trace t.gst t.phi
    → (1 < t.gst → IsDelta set trace (t.gst - 1) t.delta → IsPhi set trace (t.gst - 1) t.phi → ⊥)
    → IsOnFront set trace t
IsOnFront-from_change set trace t start end d f change = record {
  feasible = record { start = start; end = end; delta_positive = d.positive; phi_positive = f.positive; delta = d.holds; phi = f.holds };
  undominated = λ o feasible dominates.
      let delta : t.delta ≤ o.delta = d.least o.delta feasible.delta_positive
      (DeltaHolds-later set trace o.gst t.gst o.delta dominates.gst feasible.delta) in
      let phi : t.phi ≤ o.phi = f.least o.phi feasible.phi_positive
      (PhiHolds-later set trace o.gst t.gst o.phi dominates.gst feasible.phi) in
      let below_delta : o.delta ≤ t.delta = dominates.delta in
      let below_phi : o.phi ≤ t.phi = dominates.phi in
      let same_delta : o.delta ≡ t.delta = omega arith in
      let same_phi : o.phi ≡ t.phi = omega arith in
      let earlier : o.gst < t.gst = elim dominates.smaller
      [ inl l ↦ l | inr m ↦ elim m [ inl l ↦ absurd (omega arith) | inr l ↦ absurd (omega arith) ] ] in
      let first : 1 ≤ o.gst = feasible.start in
      let before : o.gst ≤ t.gst - 1 = omega arith in
      let delta_before : DeltaHolds set trace (t.gst - 1) t.delta = subst (λ e. DeltaHolds set trace (t.gst - 1) e) same_delta
      (DeltaHolds-later set trace o.gst (t.gst - 1) o.delta before feasible.delta) in
      let phi_before : PhiHolds set trace (t.gst - 1) t.phi =
      subst (λ e. PhiHolds set trace (t.gst - 1) e) same_phi (PhiHolds-later set trace o.gst (t.gst - 1) o.phi before feasible.phi) in
      change (omega arith)
      (IsDelta-earlier set trace (t.gst - 1) t.gst t.delta d (omega arith) delta_before)
      (IsPhi-earlier set trace (t.gst - 1) t.gst t.phi f (omega arith) phi_before);
}

-- no feasible triple has nothing of the front at or below it
pub front-below : (set : ℕ) (trace : Recorded) (size : ℕ) (t : Triple) → t.gst + t.delta + t.phi ≤ size → IsFeasible set trace t
    → ((o : Triple) → IsOnFront set trace o → o.gst ≤ t.gst → o.delta ≤ t.delta → o.phi ≤ t.phi → ⊥) → ⊥
front-below set trace zero t most feasible none = let start = feasible.start in omega arith
front-below set trace (suc n) t most feasible none = none t
    (record {
      feasible = feasible;
      undominated = λ o lower dominates.
          let gst : o.gst ≤ t.gst = dominates.gst in
          let delta : o.delta ≤ t.delta = dominates.delta in
          let phi : o.phi ≤ t.phi = dominates.phi in
          let less : o.gst + o.delta + o.phi ≤ n =
          elim dominates.smaller [ inl l ↦ omega arith | inr m ↦ elim m [ inl l ↦ omega arith | inr l ↦ omega arith ] ] in
          front-below set trace n o less lower (λ q front a b c. none q front (omega arith) (omega arith) (omega arith));
    })
    (omega arith) (omega arith) (omega arith)
