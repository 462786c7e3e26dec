use Rattle.std.proofs.Common.{arith}
use Rattle.step_trace.proofs.PlacedNumbers.{steps_alike}
use Rattle.step_trace.proofs.placed_steps.PlacedSteps.same_pages.Goals as goal

pub returns-clause-steps : goal.returns-clause-steps
returns-clause-steps c = rw (← c.self.view_is, ← c.other.view_is) (λ k l.
    let fewer = c.same_first.ensures.inside in
    steps_alike c.self.inside.steps c.other.inside.steps c.same_pages-same.result c.same_pages-same.ensures.same k
    (omega (arith, l, fewer)))
