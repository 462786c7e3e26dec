use Rattle.std.proofs.Common.{ℕ, ◌≡◌, ◌+◌, ◌-◌, ◌≤◌, Some, length}
use Rattle.step_trace.specs.declared.steps.Step.{Step}
use Rattle.step_trace.specs.Ticks.{tick_of}
use Rattle.step_trace.specs.Traces.{step_at}
use Rattle.link_bounds.specs.Passes.{KnowsAfter}
use Rattle.link_bounds.proofs.passes.Pass.back_to.Given as goal

-- the steps from `no` on are scanned, and are in tick `at` or later
abbrev pub invariant-loop-no : goal.invariant-loop-no
invariant-loop-no l = record {
  start : 1 ≤ l.no;
  end : l.no ≤ length l.trace.steps + 1;
  known : KnowsAfter l.fn.self.set l.trace (l.no - 1) l.self;
  above : (k : ℕ) (x : Step) → step_at l.trace.steps k ≡ Some x → l.no ≤ k → l.at ≤ tick_of l.trace k;
}
