use Rattle.std.proofs.Common.{◌≤◌, ◌-◌, []}
use Rattle.chunk_join.specs.BlockSteps.{AreLastBy, AreTakesBy}
use Rattle.chunk_join.proofs.block_messages.receives_in.Given as goal

abbrev pub invariant-loop-no : goal.invariant-loop-no
invariant-loop-no l = (l.before ≤ l.no) × AreTakesBy l.set l.trace (l.from - 1) l.no [] l.taken.items
    × AreLastBy l.set l.trace (l.from - 1) l.no l.last.items
