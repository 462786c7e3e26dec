use Rattle.std.proofs.Common.{ℕ, ◌≡◌, ◌≢◌, ◌<◌, Some, slice_get}
use Rattle.simulated_runs.specs.declared.turns.Turn.{Turn}
use Rattle.simulated_runs.proofs.turns.place_of.Given as goal

abbrev pub invariant-loop-place : goal.invariant-loop-place
invariant-loop-place l = (k : ℕ) (t : Turn) → k < l.place → slice_get l.queue k ≡ Some t → t.proc ≢ l.p
