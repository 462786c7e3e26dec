use Rattle.run_story.proofs.ReportRows.{fit_in}
use Rattle.run_story.proofs.calm.calm_row.Goals as goal

pub calmest-requires-clause-rows : goal.calmest-requires-clause-rows
calmest-requires-clause-rows c = rw c.last_tick.ensures.value
    (fit_in c.args.set c.args.trace.now c.args.rows.now c.last_tick.ensures.timed c.requires)
