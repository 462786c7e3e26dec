use Rattle.std.proofs.Common.{refl}
use Rattle.step_trace.specs.TickLists.{numbers_to}
use Rattle.step_trace.proofs.tick_lists.TickList.new.Goals as goal

pub returns : goal.returns
unfolding numbers_to
returns c = rw c.new.ensures.items refl
