use Rattle.std.proofs.Common.{arith}
use Rattle.suffix_staircase.proofs.next_steps.NextSteps.after_all.Goals as goal

pub latest_member-latest-requires-clause-some : goal.latest_member-latest-requires-clause-some
latest_member-latest-requires-clause-some c = rw c.deref.ensures.value (omega (arith, (c.in_ok-by_processor.ensures c.args.set).long))

pub latest_member-latest-requires-clause-zero : goal.latest_member-latest-requires-clause-zero
latest_member-latest-requires-clause-zero c = rw c.deref.ensures.value (c.in_ok-by_processor.ensures c.args.set).zero

pub returns : goal.returns
returns c = record {
  next = c.in_ok-by_processor.ensures c.args.set;
  latest = rw c.deref.ensures.value at c.latest_member-latest.ensures;
}
