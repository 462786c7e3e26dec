use Rattle.std.proofs.Common.{◌≡◌}
use Rattle.run_story.specs.Headlines.{last_step_of}
use Rattle.run_story.proofs.headlines.last_step_of.Given as goal

abbrev pub invariant-loop-i : goal.invariant-loop-i
invariant-loop-i l = l.last ≡ last_step_of l.proc l.trace.steps l.i
