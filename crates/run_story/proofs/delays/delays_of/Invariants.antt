use Rattle.std.proofs.Common.{◌≤◌, ◌-◌, length}
use Rattle.run_story.specs.Delays.{AreDelaysTo}
use Rattle.run_story.proofs.delays.delays_of.Given as goal

abbrev pub invariant-loop-next : goal.invariant-loop-next
invariant-loop-next l = record {
  within : l.next ≤ length l.rows;
  listed : AreDelaysTo l.trace l.rows l.next l.delays.items;
}

abbrev pub decreases-loop-next : goal.decreases-loop-next
decreases-loop-next l = length l.rows - l.next
