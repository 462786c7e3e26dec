use Rattle.event_log.proofs.cycle_lines.CycleLineDisplay.fmt.Goals as goal

pub returns-in-Hop-clause-writes : goal.returns-in-Hop-clause-writes
returns-in-Hop-clause-writes g c = λ plain ok. rw c.in-Hop.is (c.write.ensures.writes plain ok)

pub returns-in-Together-clause-writes : goal.returns-in-Together-clause-writes
returns-in-Together-clause-writes g c = λ plain ok. rw c.in-Together.is (c.write-in-Together.ensures.writes plain ok)
