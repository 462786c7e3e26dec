use Rattle.run_story.proofs.ReportRows.{fit_in}
use Rattle.run_story.proofs.headlines.headline_of.Goals as goal

pub headline_from-requires : goal.headline_from-requires
headline_from-requires c =
    fit_in c.args.set c.args.trace.now c.args.rows.now c.last_tick-last.ensures.timed c.requires.report c.args.calm _ c.requires.calm
