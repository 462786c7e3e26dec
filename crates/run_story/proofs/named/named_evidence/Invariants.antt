use Rattle.run_story.specs.Named.{AreNamedBelow}
use Rattle.run_story.proofs.named.named_evidence.Given as goal

abbrev pub invariant-loop-e : goal.invariant-loop-e
invariant-loop-e l = AreNamedBelow l.rows l.list l.e l.named.items
