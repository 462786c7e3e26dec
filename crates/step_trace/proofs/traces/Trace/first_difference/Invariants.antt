use Rattle.std.proofs.Common.{ℕ, ◌≡◌, ◌<◌, ◌≤◌}
use Rattle.step_trace.specs.Differences.{placed_at}
use Rattle.step_trace.proofs.traces.Trace.first_difference.Given as goal

abbrev pub invariant-loop-no : goal.invariant-loop-no
invariant-loop-no l = (1 ≤ l.no) × ((k : ℕ) → k < l.no → placed_at l.self k ≡ placed_at l.seen k)
