use Rattle.std.proofs.Common.{◌≡◌}
use Rattle.run_story.specs.Headlines.{sends_from}
use Rattle.run_story.proofs.headlines.sends_from.Given as goal

abbrev pub invariant-loop-i : goal.invariant-loop-i
invariant-loop-i l = l.sends ≡ sends_from l.set l.trace l.g l.i
