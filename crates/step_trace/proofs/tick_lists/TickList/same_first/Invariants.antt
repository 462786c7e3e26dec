use Rattle.std.proofs.Common.{ℕ, ◌≡◌, ◌≤◌}
use Rattle.step_trace.specs.Ticks.{tick_at}
use Rattle.step_trace.specs.TickLists.{all_ticks}
use Rattle.step_trace.proofs.tick_lists.TickList.same_first.Given as goal

abbrev pub invariant-loop-no : goal.invariant-loop-no
invariant-loop-no l = (k : ℕ) → k ≤ l.no → tick_at (all_ticks l.self) k ≡ tick_at (all_ticks l.other) k
