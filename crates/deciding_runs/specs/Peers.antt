-- What a processor has heard of each other one, and for whom it still waits in a round (own).
use Rattle.std.specs.Prelude.{ℕ, ◌-◌, List, Bool, true, false, max, not, nat_lt}
use Rattle.std.specs.Prelude.{nat_le, ◌&&◌, ◌||◌, count_by, slice_index_or}
use Rattle.std.specs.List.{list_any}
use Rattle.step_trace.specs.Configurations.{Setup}
use Rattle.lock_phases.specs.Nodes.{State}
use Rattle.round_model.specs.RoundStates.{processors}
use Rattle.deciding_runs.specs.declared.peers.Peer.{Peer}
use Rattle.deciding_runs.specs.Audible.{may_hear}

-- of whom nothing was heard yet
abbrev pub unheard : Peer
unheard = record { latest = 0; spoke = false; suspected = false }

-- what was heard of q
abbrev pub peer_of : List Peer → ℕ → Peer
peer_of peers q = slice_index_or peers (q - 1) unheard

-- after a message of a round: it spoke, and is suspected no more
abbrev pub after_hearing : ℕ → Peer → Peer
after_hearing round peer = record { latest = max peer.latest round; spoke = true; suspected = false }

-- after the last round of a phase: it is suspected if it said nothing in the phase, and isn't ahead
abbrev pub after_phase : ℕ → Peer → Peer
after_phase round peer = record {
  latest = peer.latest;
  spoke = false;
  suspected = peer.suspected || (not peer.spoke && nat_lt peer.latest round);
}

-- a message of this round or of a later one was taken
abbrev pub is_heard_of : ℕ → Peer → Bool
is_heard_of round peer = nat_le round peer.latest

-- there is nothing more to wait for in a round: it was heard of, or is suspected
abbrev pub is_done_with : ℕ → Peer → Bool
is_done_with round peer = is_heard_of round peer || peer.suspected

-- it is more than a phase ahead of the round
abbrev pub is_far_ahead : ℕ → Peer → Bool
is_far_ahead round peer = nat_lt 4 (peer.latest - round)

-- somebody is
abbrev pub is_left_behind : ℕ → List Peer → Bool
is_left_behind round peers = list_any (is_far_ahead round) peers

-- p, with this node, waits for q in a round
abbrev pub is_awaited : Setup → State → ℕ → ℕ → List Peer → ℕ → Bool
is_awaited c node round p peers q = may_hear c node round p q && not (is_done_with round (peer_of peers q))

-- for how many it waits
abbrev pub awaited_count : Setup → State → ℕ → ℕ → List Peer → ℕ
awaited_count c node round p peers = count_by (is_awaited c node round p peers) (processors c)

-- of how many it has heard in this round or in a later one
abbrev pub heard_count : ℕ → List Peer → ℕ
heard_count round peers = count_by (is_heard_of round) peers
