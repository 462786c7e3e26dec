use Rattle.std.proofs.Common.{◌≡◌, ◌≤◌, length}
use Rattle.run_story.specs.Losses.{needed_to}
use Rattle.run_story.proofs.losses.needed.Given as goal

abbrev pub invariant-loop-k : goal.invariant-loop-k
invariant-loop-k l = record {
  who : l.who.items ≡ needed_to l.n l.counts l.k;
  few : length l.who.items ≤ l.k;
}
