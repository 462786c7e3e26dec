use Rattle.std.proofs.Common.{ℕ, ◌<◌, ◌≤◌}
use Rattle.bound_witness.proofs.Common.{tick_of, DeltaHoldsFor}
use Rattle.bound_witness.proofs.communication_bounds.delta_holds.Given as goal

abbrev pub invariant-loop-s : goal.invariant-loop-s
invariant-loop-s l = (s : ℕ) → s < l.s → 1 ≤ s → l.g ≤ tick_of l.trace s → DeltaHoldsFor l.set l.trace s l.d
