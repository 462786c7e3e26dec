use Rattle.std.proofs.Common.{ℕ, ◌<◌, ◌≤◌, IsTrue}
use Rattle.step_trace.specs.Processors.{has_proc}
use Rattle.step_trace.proofs.processors.ProcSet.first_above.Given as goal

abbrev pub invariant-loop-p : goal.invariant-loop-p
invariant-loop-p l = (q : ℕ) → q < l.p → IsTrue (has_proc l.self q) → q ≤ l.n
