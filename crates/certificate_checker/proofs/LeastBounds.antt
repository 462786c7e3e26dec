-- It can't be that a tick has no least bounds.
use Rattle.std.proofs.Common.{ℕ, ◌+◌, ◌≤◌, inl, inr, length, suc, zero, arith}
use Rattle.std.proofs.lemmas.Bool.{cases_lt}
use Rattle.certificate_checker.proofs.Common.{Recorded, tick_of, DeltaHolds, PhiHolds, IsLeastBound, IsDelta, IsPhi, DeltaHolds-unrefuted, PhiHolds-unrefuted, step_at_within}
use Rattle.certificate_checker.proofs.LongestOrNone.{ticks_bound}

-- a bound that holds at a positive number up to n is least at one
some_least : (Holds : ℕ → Type 0) (n e : ℕ) → e ≤ n → 1 ≤ e → Holds e → ((d : ℕ) → ¬ IsLeastBound Holds d) → ⊥
some_least Holds zero e l p h none = omega (arith, l, p)
some_least Holds (suc n) e l p h none = none e (record {
  positive = p;
  holds = h;
  least = λ o q i. elim (cases_lt o e) [
    | inl less ↦ absurd (some_least Holds n o (omega (arith, less, l)) q i none)
    | inr most ↦ most
  ];
})

-- Δ(g) and Φ(g) exist
pub least_bounds : (set : ℕ) (trace : Recorded) (g : ℕ) → 1 ≤ g
    → ((d f : ℕ) → IsDelta set trace g d → IsPhi set trace g f → ⊥) → ⊥
least_bounds set trace g start none =
    some_least (DeltaHolds set trace g) (ticks.0 + 1) (ticks.0 + 1) (omega arith) (omega arith) delta (λ d is_delta.
    some_least (PhiHolds set trace g) (trace.last + 1) (trace.last + 1) (omega arith) (omega arith) phi (λ f is_phi.
    none d f is_delta is_phi))
  where
    ticks : (most : ℕ) × ((k : ℕ) → k ≤ length trace.steps → tick_of trace k ≤ most)
    ticks = ticks_bound trace (length trace.steps)

    delta : DeltaHolds set trace g (ticks.0 + 1)
    delta = DeltaHolds-unrefuted set trace g (ticks.0 + 1) (omega arith) (λ m r.
        omega (arith, ticks.1 m.missed (step_at_within trace.steps m.missed _ r.miss.receive.step).1, r.long))

    phi : PhiHolds set trace g (trace.last + 1)
    phi = PhiHolds-unrefuted set trace g (trace.last + 1) start (omega arith) (λ w r.
        omega (arith, r.gap.start, r.gap.inside, r.long))
