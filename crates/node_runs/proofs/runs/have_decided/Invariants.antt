use Rattle.std.proofs.Common.{ℕ, ◌≤◌, ◌<◌}
use Rattle.std.specs.Prelude.{is_some, IsTrue}
use Rattle.step_buffers.specs.Runs.{node_at}
use Rattle.node_runs.proofs.runs.have_decided.Given as goal

abbrev pub invariant-loop-p : goal.invariant-loop-p
invariant-loop-p l = (q : ℕ) → 1 ≤ q → q < l.p → IsTrue (is_some (node_at l.world.trace.config l.world.trace.steps q).decision)
