use Rattle.std.proofs.Common.{ℕ, ◌<◌, ◌≤◌}
use Rattle.bound_witness.specs.WitnessSearches.{AllStepWithin}
use Rattle.bound_witness.proofs.processor_bounds.phi_holds.Given as goal

abbrev pub invariant-loop-x : goal.invariant-loop-x
invariant-loop-x l = (x : ℕ) → x < l.x → l.g ≤ x → AllStepWithin l.set l.trace x l.f
