use Rattle.std.proofs.Common.{◌*◌, ◌≤◌, length}
use Rattle.step_trace.specs.Pages.{BeginAlike}
use Rattle.step_trace.specs.declared.paged_lists.TheConstants.{PAGE_LEN}
use Rattle.step_trace.proofs.placed_steps.same_pages.Given as goal

abbrev pub invariant-loop-q : goal.invariant-loop-q
invariant-loop-q l = (l.q * PAGE_LEN ≤ length l.other) × BeginAlike l.one l.other (l.q * PAGE_LEN)
