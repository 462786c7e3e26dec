use Rattle.std.proofs.Common.{ℕ, ◌<◌, ◌≤◌}
use Rattle.step_trace.specs.Traces.{IsStepOf}
use Rattle.run_page.proofs.tick_steps.step_in.Given as goal

-- none of the steps so far is one of the processor
abbrev pub invariant-loop-no : goal.invariant-loop-no
invariant-loop-no l = (k : ℕ) → l.before < k → k ≤ l.no → IsStepOf l.trace.steps k l.proc → ⊥
