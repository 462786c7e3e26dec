use Rattle.std.proofs.Common.{ℕ, ◌<◌, ◌≤◌}
use Rattle.step_trace.specs.Bounds.{PhiHolds}
use Rattle.bound_witness.proofs.processor_bounds.least_phi.Given as goal

abbrev pub invariant-loop-f : goal.invariant-loop-f
invariant-loop-f l = (e : ℕ) → e < l.f → 1 ≤ e → PhiHolds l.set l.trace l.g e → ⊥
