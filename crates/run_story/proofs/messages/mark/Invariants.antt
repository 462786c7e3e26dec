use Rattle.std.proofs.Common.{◌≡◌, ◌==◌, ◌||◌, ℕ, length, take}
use Rattle.std.specs.List.{list_any}
use Rattle.run_story.specs.Messages.{flag_at}
use Rattle.run_story.proofs.messages.mark.Given as goal

abbrev pub invariant-loop-s : goal.invariant-loop-s
invariant-loop-s l = record {
  len : length l.taken.items ≡ length l.fn.taken.items;
  flags : (s : ℕ) → flag_at l.taken.items s ≡ (flag_at l.fn.taken.items s || list_any (λ i. i == s) (take l.s-index l.ids));
}
