use Rattle.step_trace.specs.Pages.{BeginAlike}
use Rattle.step_trace.proofs.placed_steps.is_same_page.Given as goal

abbrev pub invariant-loop-r : goal.invariant-loop-r
invariant-loop-r l = BeginAlike l.one l.other l.r
