use Rattle.std.proofs.Common.{ℕ, ◌<◌, IsTrue}
use Rattle.bound_witness.proofs.Common.{has_proc, StepsWithin}
use Rattle.bound_witness.proofs.processor_bounds.first_silent.Given as goal

abbrev pub invariant-loop-p : goal.invariant-loop-p
invariant-loop-p l = (p : ℕ) → p < l.p → IsTrue (has_proc l.set p) → StepsWithin l.trace p l.x l.f
