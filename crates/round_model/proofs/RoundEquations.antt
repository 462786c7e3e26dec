-- The round state, from round to round: of one processor, and of all as a list.
use Rattle.std.proofs.Common.{ℕ, suc, ◌≡◌, ◌-◌, map, refl, sym, arith}
use Rattle.std.proofs.lemmas.List.FromFn.{get_or-map-range_with_len}
use Rattle.round_model.proofs.Common.{Setup, IsProc, opening, node_of, nodes_after_round}
use Rattle.lock_phases.specs.NodeFunctions.{next}
use Rattle.round_model.specs.RoundStates.{Table, processors, initial_value, messages_heard, state_after, states_after}
use Rattle.round_model.proofs.ProcessorRanges.{map-range_with_len-agree}
use Rattle.round_model.proofs.SendersHeard.{messages_heard-agree}

-- before the first round
pub state_after-opening : (c : Setup) (table : Table) (p : ℕ) → state_after c table 0 p ≡ opening (initial_value c p)
unfolding state_after
state_after-opening c table p = refl

-- after one more round
pub state_after-next : (c : Setup) (table : Table) (rounds p : ℕ) → state_after c table (suc rounds) p
    ≡ next c (state_after c table rounds p) p (suc rounds) (messages_heard c table (state_after c table rounds) p (suc rounds))
unfolding state_after
state_after-next c table rounds p = refl

-- all nodes before the first round
pub states_after-opening : (c : Setup) (table : Table) → states_after c table 0 ≡ map (λ p. opening (initial_value c p)) (processors c)
unfolding state_after
states_after-opening c table = refl

-- the node of a processor in the list of all
pub node_of-states_after : (c : Setup) (table : Table) (rounds p : ℕ)
    → IsProc c p → node_of (states_after c table rounds) p ≡ state_after c table rounds p
node_of-states_after c table rounds p is = get_or-map-range_with_len
    (state_after c table rounds) 1 c.n (p - 1) p (opening 0) (omega arith) (omega arith)

-- the lists of all nodes go from round to round as each node does
pub states_after-next : (c : Setup) (table : Table) (rounds : ℕ)
    → nodes_after_round c table (suc rounds) (states_after c table rounds) ≡ states_after c table (suc rounds)
states_after-next c table rounds =
    map-range_with_len-agree _ _ 1 c.n (λ p low high.
    let is : IsProc c p = (low, omega arith) in
    rw (
      node_of-states_after c table rounds p is,
      messages_heard-agree c table (node_of (states_after c table rounds))
          (state_after c table rounds) p (suc rounds) (node_of-states_after c table rounds),
    )
    (sym (state_after-next c table rounds p)))
