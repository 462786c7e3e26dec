use Rattle.std.proofs.Common.{ℕ, ◌≡◌, ◌≤◌, ◌+◌, length}
use Rattle.run_story.specs.Losses.{count_at, lost_for}
use Rattle.run_story.proofs.losses.lost_counts.Given as goal

abbrev pub invariant-loop-i : goal.invariant-loop-i
invariant-loop-i l = record {
  len : length l.counts.items ≡ l.trace.config.n + 1;
  each : (p : ℕ) → p ≤ l.trace.config.n → count_at l.counts.items p ≡ lost_for l.set l.trace p l.i;
  few : (p : ℕ) → p ≤ l.trace.config.n → count_at l.counts.items p ≤ l.i;
}
