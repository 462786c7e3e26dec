use Rattle.std.proofs.Common.{ℕ, ◌≡◌, ◌+◌, ◌<◌, ◌≤◌, get_or}
use Rattle.round_model.proofs.Common.{opening, messages_heard, table_of, node_of}
use Rattle.lock_phases.specs.NodeFunctions.{next}
use Rattle.round_model.proofs.rounds.run_round.Given as goal

abbrev pub invariant-loop-i : goal.invariant-loop-i
invariant-loop-i l = record {
  done : (k : ℕ) → k < l.i → get_or l.nodes k (opening 0) ≡ next l.config
      (get_or l.fn.nodes k (opening 0)) (k + 1) l.round (messages_heard l.config (table_of l.heard) (node_of l.fn.nodes) (k + 1) l.round);
  left : (k : ℕ) → l.i ≤ k → get_or l.nodes k (opening 0) ≡ get_or l.fn.nodes k (opening 0);
}
