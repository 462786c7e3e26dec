use Rattle.std.proofs.Common.{ℕ, ◌<◌, ◌≤◌, slice_index_or}
use Rattle.simulated_runs.specs.declared.trays.Posted.{Posted}
use Rattle.simulated_runs.proofs.trays.earliest.Given as goal

abbrev pub invariant-loop-message : goal.invariant-loop-message
invariant-loop-message l = (k : ℕ) (d : Posted) → k < l.message-index → l.earliest ≤ (slice_index_or l.posted k d).due
