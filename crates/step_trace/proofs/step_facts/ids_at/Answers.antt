use Rattle.std.proofs.Common.{sym}
use Rattle.step_trace.proofs.StepPositions.{ids_earlier}
use Rattle.step_trace.proofs.step_facts.ids_at.Goals as goal

pub returns-in-Some-clause-earlier : goal.returns-in-Some-clause-earlier
returns-in-Some-clause-earlier c = rw c.ids.ensures (ids_earlier c.args.trace.now.config
    c.args.trace.now.steps c.args.no c.in-Some.step.now c.in-Some.ensures.sound (sym c.in-Some.ensures.value))
