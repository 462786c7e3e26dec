use Rattle.std.proofs.Common.{◌≡◌, ◌++◌, take}
use Rattle.std.specs.Prelude.{flat_map, string_bytes}
use Rattle.node_runs.specs.DecisionLines.{count_words, decision_words}
use Rattle.node_runs.proofs.decision_lines.decided_line.Given as goal

abbrev pub invariant-loop-decision : goal.invariant-loop-decision
invariant-loop-decision l = string_bytes l.line ≡ count_words l.fn.some l.fn.all ++ flat_map decision_words
    (take l.decision-index l.fn.decisions)
