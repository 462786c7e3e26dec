use Rattle.std.proofs.Common.{◌≡◌, ◌≤◌}
use Rattle.step_trace.specs.Processors.{has_proc}
use Rattle.run_story.specs.MessageCounts.{count_of}
use Rattle.run_story.proofs.losses.count_members.Given as goal

abbrev pub invariant-loop-k : goal.invariant-loop-k
invariant-loop-k l = record {
  count : l.count ≡ count_of (has_proc l.set) l.k;
  few : l.count ≤ l.k;
}
