use Rattle.std.proofs.Common.{ℕ, ◌<◌}
use Rattle.step_trace.specs.Traces.{TakesAt}
use Rattle.bound_witness.proofs.communication_bounds.delivery.Given as goal

abbrev pub invariant-loop-no : goal.invariant-loop-no
invariant-loop-no l = (r : ℕ) → r < l.no → TakesAt l.trace.steps r l.s → ⊥
