use Rattle.std.proofs.Common.{◌≡◌}
use Rattle.run_story.specs.Named.{brief_to}
use Rattle.run_story.proofs.named.brief_rows.Given as goal

abbrev pub invariant-loop-k : goal.invariant-loop-k
invariant-loop-k l = l.rows.items ≡ brief_to l.named l.k
