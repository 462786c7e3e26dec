use Rattle.std.proofs.Common.{◌-◌, length}
use Rattle.run_story.specs.Stalls.{IsStallUpTo}
use Rattle.run_story.proofs.stalls.stall_from.Given as goal

abbrev pub invariant-loop-last : goal.invariant-loop-last
invariant-loop-last l = IsStallUpTo l.rows (record { gap = l.gap; first = l.first; last = l.last })

abbrev pub decreases-loop-last : goal.decreases-loop-last
decreases-loop-last l = length l.rows - l.last
