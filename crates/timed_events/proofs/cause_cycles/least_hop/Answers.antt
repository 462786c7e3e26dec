use Rattle.std.proofs.Common.{arith}
use Rattle.timed_events.proofs.cause_cycles.least_hop.Goals as goal

pub returns-clause-least : goal.returns-clause-least
returns-clause-least c = λ k d l. c.loop-k.invariant.1 k d (omega arith)
