use Rattle.front_timeouts.proofs.tables.follower_timeouts.Goals as goal

pub timeouts_for-requires-clause-report : goal.timeouts_for-requires-clause-report
timeouts_for-requires-clause-report c = c.in_ok-report.ensures.report c.pair-set.result c.args.trace.now c.in_ok-stairs.ensures
