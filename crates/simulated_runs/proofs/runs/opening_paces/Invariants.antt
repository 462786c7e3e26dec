use Rattle.std.proofs.Common.{◌≡◌, replicate}
use Rattle.deciding_runs.specs.Paces.{opening_pace}
use Rattle.simulated_runs.proofs.runs.opening_paces.Given as goal

abbrev pub invariant-loop : goal.invariant-loop
invariant-loop l = l.paces.items ≡ replicate l.counter (opening_pace l.config l.patience)
