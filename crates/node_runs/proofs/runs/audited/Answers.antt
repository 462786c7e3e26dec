use Rattle.std.proofs.Common.{refl}
use Rattle.node_runs.proofs.EndedRuns.{ended_run}
use Rattle.node_runs.proofs.runs.audited.Goals as goal

pub returns-clause-run : goal.returns-clause-run
returns-clause-run c = ended_run c.args.limits.end _ _
    c.in-Ok.world.trace c.args.seats.now c.in-Ok.ensures.run c.in-Ok.ensures.order c.in-Ok.ensures.seats (c.if-not-have_ended.ensures refl)
