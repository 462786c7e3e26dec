use Rattle.chunk_join.proofs.SharedTicks.{closed-passed}
use Rattle.chunk_join.proofs.analysts.Analyst.idle_to.Goals as goal

pub invariant_of-self : goal.invariant_of-self
invariant_of-self c = closed-passed c.self.inside.set c.self.inside.seen
    c.idle_to.new.self c.self.inside.closed_to c.args.tick c.self.inside.closed c.idle_to.result c.last_tick-last.ensures.well_formed
    c.idle_to.ensures.passed c.idle_to.ensures.ok c.idle_to.ensures.err c.self.invariant.0 c.self.invariant.1
