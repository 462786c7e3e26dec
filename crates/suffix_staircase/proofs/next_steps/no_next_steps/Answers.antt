use Rattle.std.proofs.Common.{List, ℕ, IsTrue, set, ap, rules}
use Rattle.step_trace.specs.Processors.{has_proc}
use Rattle.suffix_staircase.proofs.NextSteps.{AreNextTicks-after_all}
use Rattle.suffix_staircase.proofs.next_steps.no_next_steps.Goals as goal

pub returns : goal.returns
returns c = λ members. AreNextTicks-after_all (λ p. IsTrue (has_proc members p)) c.args.trace.now _
    (ap (λ (xs : List ℕ). set xs 0 0) (search rules))
