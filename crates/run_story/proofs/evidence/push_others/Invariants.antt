use Rattle.std.proofs.Common.{◌≡◌, ◌++◌, take}
use Rattle.run_story.specs.Evidence.{other_evidence}
use Rattle.run_story.proofs.evidence.push_others.Given as goal

abbrev pub invariant-loop-i : goal.invariant-loop-i
invariant-loop-i l = l.list.items ≡ l.fn.list.items ++ other_evidence l.fn.list.items (take l.i l.delays)
