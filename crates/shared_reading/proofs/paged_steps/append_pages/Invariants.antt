use Rattle.std.proofs.Common.{◌≡◌}
use Rattle.std.specs.Prelude.{All}
use Rattle.step_trace.specs.AppendedSteps.{appended}
use Rattle.shared_reading.specs.PagedSteps.{IsPaired, steps_of, ticks_of}
use Rattle.shared_reading.proofs.paged_steps.append_pages.Given as goal

-- the steps that are left lead where all of them lead
abbrev pub invariant-loop-page : goal.invariant-loop-page
invariant-loop-page l = record {
  same : appended l.fn.trace (steps_of l.fn.pages.items) (ticks_of l.fn.pages.items)
      ≡ appended l.trace (steps_of l.page-iterator.rest.items) (ticks_of l.page-iterator.rest.items);
  paired : All IsPaired l.page-iterator.rest.items;
}
