use Rattle.std.proofs.Common.{◌≡◌, ◌-◌, ◌≤◌}
use Rattle.std.specs.Prelude.{filter_map}
use Rattle.std.specs.List.{range_with_len}
use Rattle.deciding_runs.proofs.Common.{decision_at, AreRounds}
use Rattle.deciding_runs.proofs.decisions.decisions_of.Given as goal

abbrev pub invariant-loop-no : goal.invariant-loop-no
invariant-loop-no l = record {
  numbered : 1 ≤ l.no;
  rounds : AreRounds l.world.trace.config l.world.trace.steps l.no l.rounds.items;
  found : l.found.items ≡ filter_map (decision_at l.world.trace.config l.world.trace.steps) (range_with_len 1 (l.no - 1));
}
