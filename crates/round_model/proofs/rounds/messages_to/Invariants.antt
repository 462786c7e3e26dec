use Rattle.std.proofs.Common.{◌≡◌}
use Rattle.std.specs.List.{range_with_len, filter_map}
use Rattle.round_model.proofs.Common.{table_of, node_of}
use Rattle.round_model.proofs.HeardMessages.{heard_of}
use Rattle.round_model.proofs.rounds.messages_to.Given as goal

abbrev pub invariant-loop-i : goal.invariant-loop-i
invariant-loop-i l = l.messages.items ≡ filter_map
    (heard_of l.config (table_of l.heard) (node_of l.nodes) l.to l.round) (range_with_len 1 l.i)
