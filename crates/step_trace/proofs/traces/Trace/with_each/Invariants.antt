use Rattle.std.proofs.Common.{◌≡◌, ℕ, length}
use Rattle.step_trace.specs.AppendedSteps.{appended, IsReached}
use Rattle.step_trace.proofs.traces.Trace.with_each.Given as goal

-- the steps that are left lead where all of them lead, each has its tick, and they are reached as all are
abbrev pub invariant-loop-tick : goal.invariant-loop-tick
invariant-loop-tick l = record {
  leads : appended l.fn.self l.fn.steps.steps l.fn.steps.ticks ≡ appended l.trace l.tick-iterator.b.rest.items l.tick-iterator.a.rest.items;
  each : length l.tick-iterator.a.rest.items ≡ length l.tick-iterator.b.rest.items;
  later : (m : ℕ) → IsReached l.trace l.tick-iterator.b.rest.items l.tick-iterator.a.rest.items m
      → IsReached l.fn.self l.fn.steps.steps l.fn.steps.ticks m;
}
