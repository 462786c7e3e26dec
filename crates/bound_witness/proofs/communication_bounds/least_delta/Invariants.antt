use Rattle.std.proofs.Common.{ℕ, ◌<◌, ◌≤◌}
use Rattle.step_trace.specs.Bounds.{DeltaHolds}
use Rattle.bound_witness.proofs.communication_bounds.least_delta.Given as goal

abbrev pub invariant-loop-d : goal.invariant-loop-d
invariant-loop-d l = (e : ℕ) → e < l.d → 1 ≤ e → DeltaHolds l.set l.trace l.g e → ⊥
