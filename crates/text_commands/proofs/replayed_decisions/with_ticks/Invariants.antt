use Rattle.std.proofs.Common.{◌≡◌, ◌≤◌, ◌++◌, drop, length}
use Rattle.std.specs.Prelude.{map}
use Rattle.text_commands.specs.ReplayedDecisions.{with_tick}
use Rattle.text_commands.proofs.replayed_decisions.with_ticks.Given as goal

-- the decisions so far, before those that follow, are all of them
abbrev pub invariant-loop-decision : goal.invariant-loop-decision
invariant-loop-decision l = record {
  inside : l.decision-index ≤ length l.found;
  whole : l.decisions.items ++ map (with_tick l.trace) (drop l.decision-index l.found) ≡ map (with_tick l.trace) l.found;
}
