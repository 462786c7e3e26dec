use Rattle.std.proofs.Common.{◌≡◌}
use Rattle.round_model.proofs.Common.{states_after, table_of}
use Rattle.round_model.proofs.rounds.run_rounds.Given as goal

abbrev pub invariant-loop-passed : goal.invariant-loop-passed
invariant-loop-passed l = l.nodes.items ≡ states_after l.config (table_of l.heard) l.passed
