-- The nodes of all processors as one list, in the order of the processors.
use Rattle.std.specs.Prelude.{ℕ, ◌-◌, List, Option, map, slice_get, slice_index_or}
use Rattle.step_trace.specs.Configurations.{Setup}
use Rattle.lock_phases.specs.Nodes.{State, opening}
use Rattle.lock_phases.specs.Messages.{Message}
use Rattle.lock_phases.specs.NodeFunctions.{next}
use Rattle.round_model.specs.RoundStates.{Table, processors, initial_value, messages_heard}
use Rattle.round_model.specs.Agreement.{decisions}

-- the node of processor p
abbrev pub node_of : List State → ℕ → State
node_of nodes p = slice_index_or nodes (p - 1) (opening 0)

-- the nodes before the first round
abbrev pub opening_nodes : Setup → List State
opening_nodes c = map (λ p. opening (initial_value c p)) (processors c)

-- the messages that each processor hears in a round in which the processors have these nodes
abbrev pub messages_of_round : Setup → Table → ℕ → List State → List (List Message)
messages_of_round c table round nodes = map (λ p. messages_heard c table (node_of nodes) p round) (processors c)

-- the nodes after a round of a table, in which all messages are sent before any node changes
abbrev pub nodes_after_round : Setup → Table → ℕ → List State → List State
nodes_after_round c table round nodes =
    map (λ p. next c (node_of nodes p) p round (messages_heard c table (node_of nodes) p round)) (processors c)

-- the decision of the first node that has one
abbrev pub first_decision : List State → Option ℕ
first_decision nodes = slice_get (decisions nodes) 0
