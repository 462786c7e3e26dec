-- The round model (section 3): nodes that go through the rounds of Algorithm 1 together. It has no buffers
-- and no order of steps: all that it knows of the network is who heard whom.
use Rattle.std.specs.Prelude.{ℕ, zero, suc, ◌-◌, List, None, Bool, get_or, map, filter_map, option_map, if◌then◌else◌}
use Rattle.std.specs.List.{range_with_len}
use Rattle.step_trace.specs.Configurations.{Setup}
use Rattle.lock_phases.specs.Nodes.{State, opening}
use Rattle.lock_phases.specs.Messages.{Message}
use Rattle.lock_phases.specs.NodeFunctions.{out, next}

-- A table of who heard whom: whether a processor hears a sender in a round. Any function is one, so a
-- message may be lost wherever the table wants it.
abbrev pub Table : Type 0
Table = ℕ → ℕ → ℕ → Bool

-- the processors of a configuration
abbrev pub processors : Setup → List ℕ
processors c = range_with_len 1 c.n

-- the initial value of a processor
abbrev pub initial_value : Setup → ℕ → ℕ
initial_value c p = get_or c.init (p - 1) 0

-- the messages that p hears in a round in which the processors have these nodes, in the order of their
-- senders. A sender that has nothing to send to p gives nothing.
abbrev pub messages_heard : Setup → Table → (ℕ → State) → ℕ → ℕ → List Message
messages_heard c table nodes p round =
    filter_map
    (λ sender. if table p round sender then option_map (λ body. (sender, body))
    (out c (nodes sender) sender round p) else None)
    (processors c)

-- The node of p after so many rounds of a table. (The state before round r is that after r - 1 rounds.)
unfoldable pub state_after : Setup → Table → ℕ → ℕ → State
state_after c table zero p = opening (initial_value c p)
state_after c table (suc rounds) p =
    next c (state_after c table rounds p) p (suc rounds)
    (messages_heard c table (state_after c table rounds) p (suc rounds))

-- the nodes of all processors after so many rounds
abbrev pub states_after : Setup → Table → ℕ → List State
states_after c table rounds = map (state_after c table rounds) (processors c)
