use Rattle.std.proofs.Common.{ℕ, ◌≡◌, ◌≤◌, ◌+◌, length}
use Rattle.run_story.specs.MessageCounts.{last_receive, tick_in}
use Rattle.run_story.proofs.message_counts.last_receives.Given as goal

abbrev pub invariant-loop-i : goal.invariant-loop-i
invariant-loop-i l = record {
  len : length l.lasts.items ≡ l.trace.config.n + 1;
  each : (p : ℕ) → p ≤ l.trace.config.n → tick_in l.lasts.items p ≡ last_receive p l.trace l.i;
}
