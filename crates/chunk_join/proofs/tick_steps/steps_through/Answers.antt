use Rattle.std.proofs.Common.{sym, subst, arith}
use Rattle.std.specs.Prelude.{◌+◌}
use Rattle.step_trace.specs.TickSteps.{AreStepsBefore}
use Rattle.chunk_join.proofs.TickSearches.{come_stop, all_steps}
use Rattle.chunk_join.proofs.tick_steps.steps_through.Goals as goal

pub returns-then-tick-clause-next : goal.returns-then-tick-clause-next
returns-then-tick-clause-next c = come_stop c.args.trace.now c.tick.ensures.timed c.args.tick c.loop-no.no
    (omega (arith, c.if-tick.true, c.tick.ensures.value)) c.loop-no.invariant

pub returns-then-last_tick-tick-clause-next : goal.returns-then-last_tick-tick-clause-next
returns-then-last_tick-tick-clause-next c =
    subst (AreStepsBefore c.args.trace.now (c.args.tick + 1)) (sym c.len.ensures.value)
    (all_steps c.args.trace.now c.last_tick.ensures.timed c.args.tick
    (omega (arith, c.if-last_tick-tick.true, c.last_tick.ensures.value)))
