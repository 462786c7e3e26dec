use Rattle.std.proofs.Common.{◌≡◌, ◌≤◌}
use Rattle.run_story.specs.Headlines.{is_between}
use Rattle.run_story.specs.MessageCounts.{count_of, is_lost, is_under_way, last_of}
use Rattle.run_story.proofs.message_counts.counted.Given as goal

abbrev pub invariant-loop-i : goal.invariant-loop-i
invariant-loop-i l = record {
  all : l.counts.all ≡ count_of (is_between l.set l.trace.steps) l.i;
  lost : l.counts.lost ≡ count_of (is_lost l.set l.trace) l.i;
  under_way : l.counts.under_way ≡ count_of (is_under_way l.set l.trace) l.i;
  last_lost : l.counts.last_lost ≡ last_of (is_lost l.set l.trace) l.i;
  few : l.counts.all ≤ l.i;
  few_lost : l.counts.lost ≤ l.i;
  few_under_way : l.counts.under_way ≤ l.i;
}
