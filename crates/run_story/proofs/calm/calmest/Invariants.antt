use Rattle.run_story.specs.CalmRows.{IsCalmBelow}
use Rattle.run_story.proofs.calm.calmest.Given as goal

abbrev pub invariant-loop-k : goal.invariant-loop-k
invariant-loop-k l = IsCalmBelow l.last l.rows l.k l.calm
