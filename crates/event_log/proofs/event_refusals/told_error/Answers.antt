use Rattle.event_log.proofs.event_refusals.told_error.Goals as goal

pub cycle_error-requires-clause-behind : goal.cycle_error-requires-clause-behind
cycle_error-requires-clause-behind c = c.requires.behind c.in-Cycle.event c.in-Cycle.is
