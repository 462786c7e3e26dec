-- What holds of the nodes of the members of a set holds of them in the list of all nodes.
use Rattle.std.proofs.Common.{ℕ, ◌≡◌, true, sym, subst}
use Rattle.std.specs.Prelude.{Contains, is_some}
use Rattle.round_model.proofs.Common.{Setup, has_proc, IsWithin, State, value_of, node_of, HaveDecided, HoldOneValue, LocksAreProper}
use Rattle.round_model.specs.RoundStates.{Table, state_after, states_after}
use Rattle.round_model.proofs.RoundEquations.{node_of-states_after}
use Rattle.round_model.proofs.BoundedDecisions.{member-positive}

-- a member has in the list the node that is its own
member-node : (c : Setup) (set : ℕ) (table : Table) (rounds p : ℕ) → IsWithin set c.n → has_proc set p ≡ true
    → node_of (states_after c table rounds) p ≡ state_after c table rounds p
member-node c set table rounds p within m = node_of-states_after c table rounds p (member-positive set p m, within p m)

-- decisions
pub HaveDecided-states_after : (c : Setup) (set : ℕ) (table : Table) (rounds : ℕ)
    → IsWithin set c.n → HaveDecided set (state_after c table rounds) → HaveDecided set (node_of (states_after c table rounds))
HaveDecided-states_after c set table rounds within d p m =
    subst (λ (s : State). is_some s.decision ≡ true) (sym (member-node c set table rounds p within m)) (d p m)

-- one lock value
pub HoldOneValue-states_after : (c : Setup) (set : ℕ) (table : Table) (rounds : ℕ)
    → IsWithin set c.n → HoldOneValue set (state_after c table rounds) → HoldOneValue set (node_of (states_after c table rounds))
HoldOneValue-states_after c set table rounds within one p q lock other mp mq d e =
    one p q lock other mp mq
    (subst (λ (s : State). Contains s.locks lock) (member-node c set table rounds p within mp) d)
    (subst (λ (s : State). Contains s.locks other) (member-node c set table rounds q within mq) e)

-- which is proper
pub LocksAreProper-states_after : (c : Setup) (set : ℕ) (table : Table) (rounds : ℕ)
    → IsWithin set c.n → LocksAreProper set (state_after c table rounds) → LocksAreProper set (node_of (states_after c table rounds))
LocksAreProper-states_after c set table rounds within proper p q lock mp mq d =
    subst (λ (s : State). Contains s.proper (value_of lock)) (sym (member-node c set table rounds q within mq))
    (proper p q lock mp mq (subst (λ (s : State). Contains s.locks lock) (member-node c set table rounds p within mp) d))
