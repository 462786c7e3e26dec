use Rattle.std.proofs.Common.{ℕ, ◌≡◌, ◌<◌, ◌&&◌, Some, length, if◌then◌else◌}
use Rattle.std.specs.Prelude.{nat_lt}
use Rattle.run_story.specs.Named.{is_from_to, named_at}
use Rattle.run_story.proofs.named.mark_misses.Given as goal

abbrev pub invariant-loop-k : goal.invariant-loop-k
invariant-loop-k l = record {
  len : length l.named.items ≡ length l.fn.named.items;
  each : (k : ℕ) → k < length l.fn.named.items → named_at l.named.items k ≡ (if is_from_to l.delay.first l.delay.last k
      && nat_lt k l.k then record { miss = Some l.place; gap = (named_at l.fn.named.items k).gap } else named_at l.fn.named.items k);
}
