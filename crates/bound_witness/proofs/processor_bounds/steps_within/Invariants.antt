use Rattle.std.proofs.Common.{ℕ, ◌+◌, ◌<◌}
use Rattle.bound_witness.specs.TickWindows.{IsStepBetween}
use Rattle.bound_witness.proofs.processor_bounds.steps_within.Given as goal

abbrev pub invariant-loop-no : goal.invariant-loop-no
invariant-loop-no l = (k : ℕ) → k < l.no → IsStepBetween l.trace k l.p l.x (l.x + l.f) → ⊥
