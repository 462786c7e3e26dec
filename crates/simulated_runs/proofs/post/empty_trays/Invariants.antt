use Rattle.std.proofs.Common.{◌≡◌, [], replicate}
use Rattle.simulated_runs.proofs.post.empty_trays.Given as goal

abbrev pub invariant-loop : goal.invariant-loop
invariant-loop l = l.trays.items ≡ replicate l.counter []
