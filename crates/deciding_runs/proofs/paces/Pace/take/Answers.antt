use Rattle.deciding_runs.proofs.paces.Pace.take.Goals as goal

pub returns-clause-ends : goal.returns-clause-ends
returns-clause-ends c =
    rw (c.config.ensures, c.trace.ensures.value, c.node.ensures, c.round-round.ensures, c.hear_ids.ensures.heard) at c.is_over-ends.ensures

pub returns-clause-pace : goal.returns-clause-pace
returns-clause-pace c = rw (c.round-round.ensures, c.hear_ids.ensures.heard) at c.receive.ensures.received
