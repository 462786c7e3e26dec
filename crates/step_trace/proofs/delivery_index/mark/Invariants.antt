use Rattle.std.proofs.Common.{◌≡◌, ◌==◌, ◌||◌, ℕ, length, take}
use Rattle.std.specs.List.{list_any}
use Rattle.step_trace.specs.DeliveryIndex.{flag_of}
use Rattle.step_trace.proofs.delivery_index.mark.Given as goal

abbrev pub invariant-loop-s : goal.invariant-loop-s
invariant-loop-s l = record {
  len : length l.taken.items ≡ length l.fn.taken.items;
  flags : (s : ℕ) → flag_of l.taken.items s ≡ (flag_of l.fn.taken.items s || list_any (λ i. i == s) (take l.s-index l.ids));
}
