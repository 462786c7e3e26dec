use Rattle.std.proofs.Common.{◌≤◌, ◌-◌, length}
use Rattle.run_story.specs.Stalls.{AreStallsTo}
use Rattle.run_story.proofs.stalls.stalls_of.Given as goal

abbrev pub invariant-loop-next : goal.invariant-loop-next
invariant-loop-next l = record {
  within : l.next ≤ length l.rows;
  listed : AreStallsTo l.rows l.next l.stalls.items;
}

abbrev pub decreases-loop-next : goal.decreases-loop-next
decreases-loop-next l = length l.rows - l.next
