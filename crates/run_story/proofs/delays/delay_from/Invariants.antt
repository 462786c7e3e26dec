use Rattle.std.proofs.Common.{◌≡◌, ◌≤◌, ◌-◌, ◌+◌, length}
use Rattle.run_story.specs.Delays.{IsDelayUpTo}
use Rattle.run_story.proofs.delays.delay_from.Given as goal

abbrev pub invariant-loop-longer : goal.invariant-loop-longer
invariant-loop-longer l = record {
  run : IsDelayUpTo l.trace l.rows l.delay;
  first : l.delay.first ≡ l.first;
  few : l.delay.messages ≤ l.delay.last - l.delay.first + 1;
}

abbrev pub decreases-loop-longer : goal.decreases-loop-longer
decreases-loop-longer l = length l.rows - l.delay.last
