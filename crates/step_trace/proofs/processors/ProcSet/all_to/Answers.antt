use Rattle.std.proofs.Common.{ℕ, ◌≤◌, ◌↔◌, IsTrue, subst, sym}
use Rattle.step_trace.specs.Processors.{has_proc}
use Rattle.step_trace.proofs.ProcessorSets.{all_shifted, has_all_to}
use Rattle.step_trace.proofs.processors.ProcSet.all_to.Goals as goal

pub returns-clause-mask : goal.returns-clause-mask
returns-clause-mask c = all_shifted c.args.n c.requires

pub returns-clause-members : goal.returns-clause-members
returns-clause-members c = λ p. subst (λ (m : ℕ). IsTrue (has_proc m p) ↔ ((1 ≤ p) × (p ≤ c.args.n)))
    (sym (all_shifted c.args.n c.requires)) (has_all_to c.args.n p c.requires)
