use Rattle.suffix_staircase.proofs.LevelBounds.{KnowsMissesAfter-after_all, KnowsGaps-after_all}
use Rattle.std.proofs.Common.{refl}
use Rattle.suffix_staircase.proofs.backward_pass.Pass.after_all.Goals as goal

pub returns-clause-steps : goal.returns-clause-steps
returns-clause-steps c = record {
  members = refl;
  receives = c.in_ok-after_all.ensures c.args.set;
  next_steps = c.in_ok-after_all-2.ensures;
  misses = KnowsMissesAfter-after_all c.args.set c.args.trace.now;
}

pub returns-clause-gaps : goal.returns-clause-gaps
returns-clause-gaps c = KnowsGaps-after_all c.args.set c.args.trace.now
