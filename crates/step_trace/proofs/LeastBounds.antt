-- Least bounds from one real-time step and from an earlier one.
use Rattle.std.proofs.Common.{ℕ, ◌≤◌}
use Rattle.step_trace.specs.Traces.{Recorded}
use Rattle.step_trace.specs.Bounds.{DeltaHolds, PhiHolds, IsDelta, IsPhi}
use Rattle.step_trace.proofs.BoundLaws.{DeltaHolds-later, PhiHolds-later}

-- a bound that is least from a step on, and holds from an earlier one, is least from there
pub IsDelta-earlier : (set : ℕ) (trace : Recorded) (g h d : ℕ)
    → IsDelta set trace h d → g ≤ h → DeltaHolds set trace g d → IsDelta set trace g d
IsDelta-earlier set trace g h d x l holds = record {
  positive = x.positive;
  holds = holds;
  least = λ e p q. x.least e p (DeltaHolds-later set trace g h e l q);
}

pub IsPhi-earlier : (set : ℕ) (trace : Recorded) (g h f : ℕ) → IsPhi set trace h f → g ≤ h → PhiHolds set trace g f → IsPhi set trace g f
IsPhi-earlier set trace g h f x l holds = record {
  positive = x.positive;
  holds = holds;
  least = λ e p q. x.least e p (PhiHolds-later set trace g h e l q);
}
