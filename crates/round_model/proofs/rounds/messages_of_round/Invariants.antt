use Rattle.std.proofs.Common.{◌≡◌, ◌-◌, map}
use Rattle.std.specs.List.{range_with_len}
use Rattle.round_model.proofs.Common.{messages_heard, table_of, rows_of, node_of}
use Rattle.round_model.proofs.rounds.messages_of_round.Given as goal

abbrev pub invariant-loop-p : goal.invariant-loop-p
invariant-loop-p l = rows_of l.messages.items ≡ map
    (λ p. messages_heard l.config (table_of l.heard) (node_of l.nodes) p l.round) (range_with_len 1 (l.p - 1))
