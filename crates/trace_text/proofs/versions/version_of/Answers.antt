use Rattle.std.proofs.Common.{◌≤◌, length, arith}
use Rattle.trace_text.proofs.OnePerTick.{one-where_numbered, two-otherwise, tests-IsOnePerTick}
use Rattle.trace_text.proofs.versions.version_of.Goals as goal

pub returns-then-last_tick-steps-clause-version : goal.returns-then-last_tick-steps-clause-version
returns-then-last_tick-steps-clause-version c = two-otherwise c.args.trace.now c.last_tick.ensures.timed
    (λ one. let e = one.end in omega (arith, e))

pub returns-then-last_tick-steps-clause-numbered : goal.returns-then-last_tick-steps-clause-numbered
returns-then-last_tick-steps-clause-numbered c = tests-IsOnePerTick c.args.trace.now c.last_tick.ensures.timed

pub returns-then-tick-no-clause-version : goal.returns-then-tick-no-clause-version
returns-then-tick-no-clause-version c = two-otherwise c.args.trace.now c.last_tick.ensures.timed (λ one. let within : c.loop-no.no
    ≤ length c.args.trace.now.steps = omega arith in let e = one.each c.loop-no.no within in omega (arith, e))

pub returns-then-tick-no-clause-numbered : goal.returns-then-tick-no-clause-numbered
returns-then-tick-no-clause-numbered c = tests-IsOnePerTick c.args.trace.now c.last_tick.ensures.timed

pub returns-clause-version : goal.returns-clause-version
returns-clause-version c = one-where_numbered c.args.trace.now c.last_tick.ensures.timed
    (record { end = omega arith; each = λ k l. c.loop-no.invariant k (omega (arith, l)) })

pub returns-clause-numbered : goal.returns-clause-numbered
returns-clause-numbered c = tests-IsOnePerTick c.args.trace.now c.last_tick.ensures.timed
