use Rattle.std.proofs.Common.{ℕ, ◌<◌, ◌≤◌}
use Rattle.simulated_runs.specs.Crashes.{IsUpIn}
use Rattle.simulated_runs.proofs.crashes.first_up.Given as goal

abbrev pub invariant-loop-q : goal.invariant-loop-q
invariant-loop-q l = (p : ℕ) → l.fn.from ≤ p → p < l.q → IsUpIn l.lasts p l.tick → ⊥
