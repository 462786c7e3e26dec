use Rattle.chunk_join.proofs.SharedTicks.{closed-pushed}
use Rattle.chunk_join.proofs.analysts.Analyst.push_at.Goals as goal

pub invariant_of-self : goal.invariant_of-self
invariant_of-self c = closed-pushed c.self.inside.set c.self.inside.seen c.push_at.new.self
    c.self.inside.closed_to c.args.tick c.args.step c.self.inside.closed c.push_at.result c.last_tick-last.ensures.well_formed
    c.push_at.ensures.appended c.push_at.ensures.ok c.push_at.ensures.err c.self.invariant.0 c.self.invariant.1
